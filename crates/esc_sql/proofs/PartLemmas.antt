-- From the clauses of one call to those of a part or a read.
use Rattle.esc_sql.proofs.Common.{◌≡◌, ℕ, true, false, List, Ok, refl, arith, inl, inr, subst, Result}
use Rattle.esc_sql.proofs.Common.{Err, IsTrue, OnOk, IfOk, cases_Bool, unchanged_keeps, ◌⊎◌}
use Rattle.esc_sql.proofs.Common.{survives_weaker, Database, state, State, Executes, KeepsCommit}
use Rattle.esc_sql.proofs.Common.{ExecutesInside, Ghosts, Error, Row, HoldsContent, rows_of, Content}
use Rattle.esc_sql.proofs.Common.{IsPart, RunsInside, if_goes, is_write_text, is_read_text}
use Rattle.std.proofs.Common.{IfErr, IsErr}
use Rattle.std.proofs.lemmas.Result.{on_ok_weaker}
use Rattle.sqlite.specs.Held.{Held}
use Rattle.sqlite.specs.declared.error.Error.TheVariants.{SqliteFailure}
use Rattle.sqlite.specs.declared.error.ErrorCode.TheVariants.{TransactionState}
use Rattle.sqlite.specs.State.{Shown, HasCleanDisk, Survives, IsUnchanged, IsRolledBack, IsNotRun}
use Rattle.sqlite.specs.State.{FailsToQuery, CommitsShowing}
use Rattle.sqlite.proofs.InsideLemmas.{inside_keeps, keeps_then}
use Rattle.sqlite.proofs.StateLemmas.{survives_then}
use Rattle.sqlite_store.proofs.StoreLemmas.{if_ok}
use Rattle.esc_sql.specs.Part.{IsRead}
use Rattle.esc_sql.specs.Changes.{Tells}
use Rattle.esc_sql.proofs.RowTexts.{no_returning, reads_commit_none}

-- what `count_within` and `write_within` ensure of a text with these parameters; outside a transaction
-- they fail and do nothing
abbrev Ran : {X S : Type 0}
    → (List ℕ → Row → State → State → Result X Error → Type 0) → Ghosts S → List ℕ → Row
    → Held S → Held S → Result X Error → Type 0
Ran Runs g sql params old new result = record {
  ended : old.in_transaction ≡ false → (result ≡ Err (SqliteFailure TransactionState)) × (new ≡ old);
  runs : is_write_text sql ≡ true → HasCleanDisk (state g new) → IsTrue old.in_transaction
      → Runs sql params (state g old) (state g new) result;
  survives : is_write_text sql ≡ true → Survives (state g old) (state g new) (λ _. ⊥);
}

-- what a call did that wrote rows and counted them
abbrev pub Counted : {S : Type 0}
    → Ghosts S → List ℕ → Row → Held S → Held S → Result ℕ Error → Type 0
Counted = Ran (ExecutesInside 0)

-- what a call did that wrote rows
abbrev pub Wrote : {S : Type 0}
    → Ghosts S → List ℕ → Row → Held S → Held S → Result (Unit {0}) Error → Type 0
Wrote = Ran RunsInside

module _ {S : Type 0} (g : Ghosts S) (sql : List ℕ) (params : Row) (old new : Held S)
    (Made : Database → Database → Type 0) where
  abbrev Means : ℕ → Type 0
  Means count = Executes sql params (state g old) (state g new) (Ok count) → Made (state g old).now (state g new).now

  -- the statement ran to an end, and a call that succeeds has its count
  record IsRun {X : Type 0} (result : Result X Error) : Type 0 where
    ran : Result ℕ Error
    inside : ExecutesInside 0 sql params (state g old) (state g new) ran
    counts : OnOk result ((count : ℕ) × (ran ≡ Ok count) × Means count)

  part : {X : Type 0} (Runs : List ℕ → Row → State → State → Result X Error → Type 0)
      (result : Result X Error) → is_write_text sql ≡ true → Ran Runs g sql params old new result
      → (Runs sql params (state g old) (state g new) result → IsRun result)
      → IsPart (state g old) (state g new) Made result
  part Runs result writes did run = elim (cases_Bool old.in_transaction) [
    | inl inside ↦ record {
      survives = did.survives writes;
      kept = λ clean. let it = run (did.runs writes clean inside) in
          inside_keeps (state g old) (state g new) 0 false sql params it.ran it.inside;
      within = if_ok result _ (λ _ _. inside);
      made = λ clean.
          let it = run (did.runs writes clean inside) in
          on_ok_weaker result (λ h.
          let now = subst (ExecutesInside 0 sql params (state g old) (state g new)) h.1 it.inside in
          (h.2 now.0, now.1.mode, now.1.is_open)) it.counts;
    }
    | inr outside ↦ rw (did.ended outside).0 (record {
      survives = did.survives writes;
      kept = λ clean. rw (did.ended outside).1 (record { was_open = λ up. up; committed = λ _. refl });
      within = tt;
      made = λ clean. tt;
    })
  ]

  -- of `count_within`
  pub count_part : {result : Result ℕ Error} → is_write_text sql ≡ true → Counted g sql params old new result
      → ((count : ℕ) → result ≡ Ok count → Means count) → IsPart (state g old) (state g new) Made result
  count_part {result} writes did means = part (ExecutesInside 0) result writes did (λ h. run result h means)
    where
      run : (r : Result ℕ Error) → ExecutesInside 0 sql params (state g old) (state g new) r
          → ((count : ℕ) → r ≡ Ok count → Means count) → IsRun r
      run (Ok count) h means = record { ran = Ok count; inside = h; counts = (count, refl, means count refl) }
      run (Err e) h means = record { ran = Err e; inside = h; counts = tt }

-- ---- reads

query_keeps : (sql : List ℕ) (params : Row) (old new : State) (e : Error)
    → FailsToQuery sql params old new e → IsUnchanged old new ⊎ IsRolledBack old new
unfolding FailsToQuery IsNotRun
query_keeps sql params old new e h = grind arith

-- what `query_all` ensures of a text with these parameters
abbrev pub Asked : {V : Type 0}
    → Type 0 → List ℕ → Row → State → State → (V → List Row) → Result V Error → Type 0
Asked Within sql params old new rows_of result = record {
  ok : HasCleanDisk new → IfOk result (λ v. Shown sql params old new (rows_of v));
  err : HasCleanDisk new → IfErr result (FailsToQuery sql params old new);
  mode : old.in_transaction ≡ false → new.in_transaction ≡ false;
  within : Within;
  survives : Survives old new (CommitsShowing sql params old);
}

module _ (sql : List ℕ) (reads : is_read_text sql ≡ true) (params : Row) (old new : State) where
  -- a SELECT changes nothing, whatever the schema is
  same_after : (rows : List Row) → Shown sql params old new rows → IsUnchanged old new
  unfolding Shown
  same_after rows h = (rw (no_returning sql reads old.now.schema h.0 h.1.is) at h.2).3

  -- of `query_all`
  pub read_part : {V Within : Type 0} (rows_of : V → List Row)
      (Says : Database → V → Type 0) {result : Result V Error}
      → Asked Within sql params old new rows_of result
      → ((v : V) → Shown sql params old new (rows_of v) → Says old.now v) → IsRead old new Says result
  read_part {V} rows_of Says {result} asked means = record {
    survives = survives_weaker old new _ _ (λ clean db h. reads_commit_none sql params old reads db h) asked.survives;
    autocommit = asked.mode;
    kept = λ clean. kept result (asked.ok clean) (asked.err clean);
    said = λ clean. if_goes result _ _ (asked.ok clean) (λ v shown. (means v shown, same_after (rows_of v) shown));
  } where
    kept : (r : Result V Error) → IfOk r (λ v. Shown sql params old new (rows_of v))
        → IfErr r (FailsToQuery sql params old new) → KeepsCommit old new
    kept (Ok v) shown failed = unchanged_keeps old new (inl (same_after (rows_of v) shown))
    kept (Err e) shown failed = unchanged_keeps old new (query_keeps sql params old new e failed)

-- ---- one part after another

-- a part, and then another one, however it ends
pub then_part : {X Y E : Type 0} {a b c : State} {First Second Both : Database → Database → Type 0} {x : X}
    {r : Result Y E} → IsPart {X = X} {E = E} a b First (Ok x) → IsPart b c Second r
    → ((p q r : Database) → First p q → Second q r → Both p r) → IsPart a c Both r
then_part {a} {b} {c} {r} p q join = record {
  survives = survives_then a b c _ _ _ (λ _ db none. none) (λ _ db none. none) p.survives q.survives;
  kept = λ clean. keeps_then a b c (p.kept (omega (arith, q.survives.clean))) (q.kept clean);
  within = if_ok r _ (λ _ _. p.within);
  made = λ clean. on_ok_weaker r (λ did. (
    join a.now
        b.now c.now (p.made (omega (arith, q.survives.clean))).0 did.0,
    did.1,
    did.2,
  )) (q.made clean);
}

-- the same part, told in other words
pub part_as : {X Y E : Type 0} {a b : State} {Made Other : Database → Database → Type 0} {x : X} {y : Y}
    → IsPart {X = X} {E = E} a b Made (Ok x) → ((p q : Database) → Made p q → Other p q)
    → IsPart {X = Y} {E = E} a b Other (Ok y)
part_as {a} {b} p tell = record {
  survives = p.survives;
  kept = p.kept;
  within = p.within;
  made = λ clean. (tell a.now b.now (p.made clean).0, (p.made clean).1, (p.made clean).2);
}

-- two parts that succeed
pub parts : {X Y Z E : Type 0}
    {a b c : State} {First Second Both : Database → Database → Type 0} {x : X} {y : Y} {z : Z}
    → IsPart {X = X} {E = E} a b First (Ok x) → IsPart {X = Y} {E = E} b c Second (Ok y)
    → ((p q r : Database) → First p q → Second q r → Both p r) → IsPart {X = Z} {E = E} a c Both (Ok z)
parts p q join = part_as (then_part p q join) (λ p q both. both)

-- a part that fails
pub refused : {X Y E : Type 0} {a b : State} {Made Other : Database → Database → Type 0} {e : E} {r : Result Y E}
    → IsPart {X = X} {E = E} a b Made (Err e) → IsErr r → IsPart a b Other r
refused {r = Ok y} p bad = absurd (cc)
refused {r = Err f} p bad = record { survives = p.survives; kept = p.kept; within = tt; made = λ clean. tt }

-- the text, with these parameters, does this to a database
pub record IsWriting (text : List ℕ) (params : Row) (Made : Database → Database → Type 0) : Type 1 where
  pub writes : is_write_text text ≡ true
  pub does : (old new : State) (count : ℕ) → Executes text params old new (Ok count) → Made old.now new.now

-- the same, told in other words
pub writing_as : {text : List ℕ} {params : Row} {Made Other : Database → Database → Type 0}
    → IsWriting text params Made
    → ((old new : Database) → Made old new → Other old new) → IsWriting text params Other
writing_as w tell = record {
  writes = w.writes;
  does = λ old new count ran. tell old.now new.now (w.does old new count ran);
}

-- the text, with these parameters, shows these rows of a store
pub record IsAsking (text : List ℕ) (params : Row) (Shows : Content → List Row → Type 0) : Type 1 where
  pub reads : is_read_text text ≡ true
  pub shows : (old new : State) (rows : List Row) (c : Content)
      → HoldsContent old.now c → Shown text params old new rows → Shows c rows

-- the same, told in other words
pub asking_as : {text : List ℕ} {params : Row} {Shows Other : Content → List Row → Type 0}
    → IsAsking text params Shows
    → ((c : Content) (rows : List Row) → Shows c rows → Other c rows) → IsAsking text params Other
asking_as a tell = record {
  reads = a.reads;
  shows = λ old new rows c h shown. tell c rows (a.shows old new rows c h shown);
}

-- a write by `write_within` of one text, whose given parameters are these
pub makes : {S : Type 0} (g : Ghosts S) {text : List ℕ} {given params : Row}
    {old new : Held S} {Made : Database → Database → Type 0} {result : Result (Unit {0}) Error}
    → IsWriting text params Made → Wrote g text given old new result
    → given ≡ params → IsPart (state g old) (state g new) Made result
makes g {text} {given} {params} {old} {new} {Made} {result} w did same =
    part g text params old new Made
    RunsInside result w.writes (subst (λ r. Wrote g text r old new result) same did) (run result)
  where
    run : (r : Result (Unit {0}) Error)
        → RunsInside text params (state g old) (state g new) r → IsRun g text params old new Made r
    run (Ok done) h = record { ran = Ok h.0; inside = h.1; counts = (h.0, refl, w.does _ _ h.0) }
    run (Err e) h = record { ran = Err e; inside = h; counts = tt }

-- a read by one text, whose given parameters are these
pub tells : {V Within : Type 0} {text : List ℕ} {given params : Row} {old new : State}
    {Shows : Content → List Row → Type 0} {rows_of : V → List Row} {result : Result V Error}
    → IsAsking text params Shows
    → Asked Within text given old new rows_of result → given ≡ params
    → IsRead old new (λ db v. Tells Shows db (rows_of v)) result
tells {Within} {text} {params} {old} {new} {rows_of} {result} a asked same =
    read_part text a.reads params
    old new rows_of _ (subst (λ r. Asked Within text r old new rows_of result) same asked)
    (λ v shown c h. a.shows old new (rows_of v) c h shown)

-- ---- a read, and then its rows made values

-- what a read says of what it shows
pub read_then : {X Y E : Type 0}
    {old new : State} {Shows : Content → X → Type 0} {Says : Content → Y → Type 0} {x : X}
    {r : Result Y E} → IsRead {X = X} {E = E} old new (Tells Shows) (Ok x)
    → ((db : Database) (c : Content) → HoldsContent db c → Shows c x → IfOk r (Says c))
    → IsRead old new (Tells Says) r
read_then {X} {Y} {E} {old} {new} {Shows} {Says} {x} {r} read makes = record {
  survives = read.survives;
  autocommit = read.autocommit;
  kept = read.kept;
  said = λ clean. said r (read.said clean) makes;
} where
  said : (r : Result Y E) → Tells Shows old.now x × IsUnchanged old new
      → ((db : Database) (c : Content) → HoldsContent db c → Shows c x → IfOk r (Says c))
      → IfOk r (λ y. Tells Says old.now y × IsUnchanged old new)
  said (Ok y) h makes = (λ c holds. makes old.now c holds (h.0 c holds), h.1)
  said (Err e) h makes = tt
