-- What a call within a change keeps of the change, what it makes of it, and what a read says.
use Rattle.esc_store.proofs.Common.{◌≡◌, true, false, List, Option, Some, refl, sym, ap, subst, ◌∙◌}
use Rattle.esc_store.proofs.Common.{IsTrue, Result, Ok, Err, OnOk, both_ways, unwrap_or, Ghosts}
use Rattle.esc_store.proofs.Common.{Database, Held, state, HasCleanDisk, Survives, KeepsCommit, MRow}
use Rattle.esc_store.proofs.Common.{Content, IsPart, StoreFault, Store, StoreState, BeganIn}
use Rattle.esc_store.proofs.Common.{HasMadeBooksIn, HasMadeTablesIn}
use Rattle.esc_store.proofs.Common.{IsBooks, IsRegistry, ChangeOf, IsStoreDatabase, IsStep}
use Rattle.esc_store.proofs.Common.{IsUncommitted, IsChangePart, listed_by, on_ok_weaker, ChangeFollows}
use Rattle.esc_store.proofs.Common.{IfOk-at_ok, was_clean, if_ok, State as Tables, content_in, Tells}
use Rattle.esc_store.proofs.Common.{IsLook, IsStoreRead}
use Rattle.sqlite.specs.State.{State}
use Rattle.esc_store.proofs.Ends.{begun_committed}
pub use Rattle.esc_store.proofs.Parts.{step_is, registry_same, become_turns}
use Rattle.esc_store.proofs.Parts.{Turns, turning, Becoming, Settled, books_as}

-- a call within a change, by the state of the connection: what it makes of tables while the transaction
-- is on, and that nothing is left of the change where it is off
pub record Passes {X E : Type 0} (old new : State)
    (R : Content → Content → Type 0) (result : Result X E) : Type 0 where
  pub survives : Survives old new (λ trees. ⊥)
  pub kept : HasCleanDisk new → KeepsCommit old new
  pub on : HasCleanDisk new → new.in_transaction ≡ true
      → (old.in_transaction ≡ true) × Turns R old.now new.now × IsTrue new.is_open
  pub off : HasCleanDisk new → new.in_transaction ≡ false → IsTrue new.is_open
      → (old.in_transaction ≡ false → old.now ≡ old.committed) → new.now ≡ new.committed
  pub stays : HasCleanDisk new → OnOk result (old.in_transaction ≡ true → new.in_transaction ≡ true)

-- one that failed
pub passes_err : {X E : Type 0} {old new : State} {R : Content → Content → Type 0} {e : E}
    → Survives old new (λ trees. ⊥) → (HasCleanDisk new → KeepsCommit old new)
    → (HasCleanDisk new → (new.in_transaction ≡ false) × (IsTrue new.is_open → new.now ≡ new.committed))
    → Passes {X = X} old new R (Err e)
passes_err {new = new} survives kept failed = record {
  survives = survives;
  kept = kept;
  on = λ clean on. absurd (both_ways new.in_transaction (failed clean).0 on);
  off = λ clean off up was. (failed clean).1 up;
  stays = λ clean. tt;
}

passes_step : {X E : Type 0} {old new : State}
    {Made : Database → Database → Type 0} {R : Content → Content → Type 0} {r : Result X E}
    → IsStep old new Made r → ((a b : Database) → Made a b → Turns R a b) → Passes old new R r
passes_step {new = new} {r = Ok x} step turns = record {
  survives = step.survives;
  kept = step.kept;
  on = λ clean on. let m = step.made clean in (m.0, turns _ _ m.1, m.3);
  off = λ clean off up was. absurd (both_ways new.in_transaction off (step.made clean).2);
  stays = λ clean was. (step.made clean).2;
}
passes_step {r = Err e} step turns = passes_err step.survives step.kept step.failed

-- the same of a store, and what the call makes of what the tables hold
pub record Moves {S X E : Type 0} (g : Ghosts S)
    (old new : Store S) (R : Content → Content → Type 0) (result : Result X E) : Type 0 where
  pub manifest : new.manifest ≡ old.manifest
  pub writes : new.writes ≡ old.writes
  pub pass : Passes (state g old.conn) (state g new.conn) R result

-- a step of the connection is one of the change
pub stepped : {S X E : Type 0} {g : Ghosts S} {old new : Store S}
    {r : Result X E} {Made : Database → Database → Type 0} {R : Content → Content → Type 0}
    → new.manifest ≡ old.manifest → new.writes ≡ old.writes → IsStep (state g old.conn)
    (state g new.conn) Made r → ((a b : Database) → Made a b → Turns R a b) → Moves g old new R r
stepped manifest writes step turns = record { manifest = manifest; writes = writes; pass = passes_step step turns }

-- a statement, settled
pub moved : {S X D : Type 0} {g : Ghosts S}
    {old new : Store S} {conn : Held S} {outcome : Result X D} {result : Result X StoreFault}
    {Made : Database → Database → Type 0} {R : Content → Content → Type 0}
    → Settled g (record old { conn = conn }) new outcome result
    → IsPart (state g old.conn) (state g conn) Made outcome
    → ((a b : Database) → Made a b → Turns R a b) → Moves g old new R result
moved settle part turns = stepped settle.manifest settle.writes (step_is settle.settled part) turns

module _ {S : Type 0} {g : Ghosts S} {X E : Type 0} {old new : Store S}
    {R : Content → Content → Type 0} {r : Result X E} (move : Moves g old new R r) where
  clean_before : HasCleanDisk (state g new.conn) → HasCleanDisk (state g old.conn)
  clean_before = was_clean move.pass.survives

  begun_step : (k : StoreState) → BeganIn g old k → BeganIn g new k
  unfolding BeganIn
  begun_step k begun = record {
    listed = move.manifest ∙ begun.listed;
    on = λ clean on. let (was_on, turns, up) = move.pass.on clean on in
        let was = begun.on (clean_before clean) was_on in
        (up, subst (λ db. IsStoreDatabase db k) (sym ((move.pass.kept clean).committed up)) was.1, (turns.by was.2).0);
    off = λ clean off up. let kept = move.pass.kept clean in (
      subst (λ db. IsStoreDatabase db k) (sym (kept.committed up))
          (begun_committed _ _ k begun (clean_before clean) (kept.was_open up)),
      move.pass.off clean off up (λ was. (begun.off (clean_before clean) was (kept.was_open up)).1),
    );
  }

  -- what is made of what was kept, where the rows that are listed are those of it
  made_as : (l l' : Option (List MRow)) {k k' : StoreState}
      → (unwrap_or l old.manifest ≡ k.listed → unwrap_or l' new.manifest ≡ k'.listed)
      → ((c c' : Content) → R c c' → IsBooks c k → IsBooks c' k')
      → (before : StoreState) → HasMadeBooksIn g old l before k → HasMadeBooksIn g new l' before k'
  unfolding HasMadeBooksIn BeganIn
  made_as l l' listed turn before made = record {
    begun = begun_step before made.begun;
    listed = listed made.listed;
    books = λ clean on. let (was_on, turns, up) = move.pass.on clean on in
        turn _ _ (turns.by (made.begun.on (clean_before clean) was_on).2).1 (made.books (clean_before clean) was_on);
  }

  pub made_then : (l : Option (List MRow)) {k k' : StoreState}
      → k'.listed ≡ k.listed → ((c c' : Content) → R c c' → IsBooks c k → IsBooks c' k')
      → (before : StoreState) → HasMadeBooksIn g old l before k → HasMadeBooksIn g new l before k'
  made_then l same = made_as l l (λ h. ap (unwrap_or l) move.manifest ∙ h ∙ sym same)

  pub made_all : {F : StoreState → StoreState} (l : Option (List MRow))
      → ((k : StoreState) → (F k).listed ≡ k.listed)
      → ((k : StoreState) (c c' : Content) → R c c' → IsBooks c k → IsBooks c' (F k))
      → OnOk r ((before k : StoreState) → HasMadeBooksIn g old l before k → HasMadeBooksIn g new l before (F k))
  made_all l same turn = if_ok r _ (λ x is before k. made_then l (same k) (turn k) before)

  -- of a step that lists rows
  pub listed_step : {k k' : StoreState}
      → ((c c' : Content) → R c c' → IsBooks c k → IsBooks c' k') → (before : StoreState)
      → HasMadeBooksIn g old (Some k.listed) before k → HasMadeBooksIn g new (Some k'.listed) before k'
  listed_step {k} {k'} = made_as (Some k.listed) (Some k'.listed) (λ _. refl)

  pub holds_step : {s s' : Tables} {x : X} → r ≡ Ok x → ((c c' : Content)
      → R c c' → IsRegistry c s → IsRegistry c' s') → HasMadeTablesIn g old s → HasMadeTablesIn g new s'
  unfolding HasMadeTablesIn
  holds_step is turn goes clean =
      let was = goes (clean_before clean) in
      let on = IfOk-at_ok _ is (move.pass.stays clean) was.in_transaction in
      let (was_on, turns, up) = move.pass.on clean on in
      let now = turns.by was.tables_are in
      record { is_open = up; in_transaction = on; tables_are = now.0; registry = turn _ _ now.1 was.registry }

  pub holds_all : {F : Tables → Tables}
      → ((s : Tables) (c c' : Content) → R c c' → IsRegistry c s → IsRegistry c' (F s))
      → OnOk r ((s : Tables) → HasMadeTablesIn g old s → HasMadeTablesIn g new (F s))
  holds_all turn = if_ok r _ (λ x is s. holds_step is (turn s))

-- a part lists what was listed
pub lists_same : {S : Type 0} {g : Ghosts S} {X E : Type 0} (old : ChangeOf S)
    {new : Store S} {R : Content → Content → Type 0} {r : Result X E} → Moves g old.store.now new R r
    → listed_by (record old { store = record old.store { now = new } }) ≡ listed_by old
lists_same old move = ap (unwrap_or old.listing) move.manifest

module _ {S : Type 0} {g : Ghosts S} {X E : Type 0} {old : ChangeOf S} {new : Store S}
    {R : Content → Content → Type 0} {r : Result X E} (move : Moves g old.store.now new R r) where
  pub goes_step : IsUncommitted g old (record old { store = record old.store { now = new } })
  goes_step = record {
    same_reference = refl;
    manifest = move.manifest;
    writes = move.writes;
    survives = move.pass.survives;
    began = begun_step move;
  }

  -- a part that lists no rows, and leaves the tables as they were
  pub part_step : {F : StoreState → StoreState} → ((k : StoreState) → (F k).listed ≡ k.listed)
      → ((k : StoreState) (c c' : Content) → R c c' → IsBooks c k → IsBooks c' (F k))
      → ((s : Tables) (c c' : Content) → R c c' → IsRegistry c s → IsRegistry c' s)
      → IsChangePart g old (record old { store = record old.store { now = new } }) r F
  part_step listed books tables = record {
    goes_on = goes_step;
    count = refl;
    makes = on_ok_weaker r (λ makes clean. makes) (made_all move old.listing listed books);
    holds = holds_all move {F = λ s. s} tables;
  }

  pub follows_step : ((k : StoreState) (c c' : Content) → R c c' → IsBooks c k → IsBooks c' k)
      → ChangeFollows g old (record old { store = record old.store { now = new } })
  follows_step turn = record {
    goes_on = goes_step;
    listed = lists_same old move;
    rest = λ before k. made_then move old.listing refl (turn k) before;
  }

-- ---- reads

-- what the tables hold stays
passes_look : {X E : Type 0} {old new : State} {P : Content → X → Type 0} {r : Result X E}
    → IsLook old new (Tells P) r → Passes old new (Becoming (λ c. c)) r
passes_look {old = old} {r = Ok x} look = record {
  survives = look.survives;
  kept = look.kept;
  on = λ clean on. let it = (look.said clean).1.0 in (
    sym it.mode ∙ on,
    subst (λ (db : Database). Turns (Becoming (λ c. c)) old.now db) (sym it.now_is)
        (turning (λ tables. (content_in old.now.trees, tables, record { is = refl }))),
    it.is_open,
  );
  off = λ clean off up was. let it = (look.said clean).1.0 in
      it.now_is ∙ was (sym it.mode ∙ off) ∙ sym it.committed_is;
  stays = λ clean was. (look.said clean).1.0.mode ∙ was;
}
passes_look {r = Err e} look = passes_err look.survives look.kept look.failed

module _ {S : Type 0} {g : Ghosts S} {X E : Type 0} {old new : Store S}
    {P : Content → X → Type 0} {r : Result X E} (read : IsStoreRead g old new P r) where
  moves_look : Moves g old new (Becoming (λ c. c)) r
  moves_look = record { manifest = read.manifest; writes = read.writes; pass = passes_look read.look }

  pub holds_look : {x : X} → r ≡ Ok x → (s : Tables) → HasMadeTablesIn g old s → HasMadeTablesIn g new s
  holds_look is s = holds_step moves_look is (λ _ _ turn. registry_same turn.is refl refl)

  pub says_look : {s : Tables} {x : X} → r ≡ Ok x → HasCleanDisk (state g new.conn)
      → HasMadeTablesIn g old s → (c : Content) × IsRegistry c s × P c x × HasMadeTablesIn g new s
  unfolding HasMadeTablesIn
  says_look {s} is clean goes =
      let was = goes (was_clean read.look.survives clean) in
      let c = content_in (state g old.conn).now.trees in
      (c, was.registry, (IfOk-at_ok _ is (read.look.said clean)).0 c was.tables_are, holds_look is s goes)

-- a change goes on over a read
pub follows_look : {S : Type 0} {g : Ghosts S}
    {X E : Type 0} {old : ChangeOf S} {new : Store S} {P : Content → X → Type 0} {r : Result X E}
    → IsStoreRead g old.store.now new P r
    → ChangeFollows g old (record old { store = record old.store { now = new } })
follows_look read = follows_step (moves_look read) (λ _ _ _ turn books. books_as
    turn.is books.listed books.receipts books.held books.parked books.moment books.steps)
