-- BEGIN, COMMIT and ROLLBACK, under any schema.
use Rattle.esc_sql.proofs.Common.{◌≡◌, ◌⊎◌, inl, inr, ℕ, List, [], true, false, Result, Ok, Err, None}
use Rattle.esc_sql.proofs.Common.{IsTrue, length, ◌≤◌, refl, sym, ap, subst, ◌∙◌, arith, cases_Bool}
use Rattle.esc_sql.proofs.Common.{Command, Compiled, Error, State, Executes, KeepsCommit, fails_whole}
use Rattle.esc_sql.proofs.Common.{unchanged_keeps, IsPlain, command_of, runs_as, Trees, Schema}
use Rattle.sqlite_schema.specs.declared.command.Command.TheVariants.{Begin, Commit, Rollback}
use Rattle.sqlite.specs.Listing.{understood}
use Rattle.sqlite.specs.Clock.{timed}
use Rattle.sqlite.specs.State.{Runs, RunsAlone, MayCommit, IsNoStatement, IsNotRun, shows_rows, text_of}
use Rattle.sqlite.specs.State.{ExecutesIn, CommitsBy, IsRolledBack, Shows}
use Rattle.sqlite_tied.specs.Compute.{everything}
use Rattle.esc_sql.specs.Texts.{begin_text, commit_text, rollback_text}
use Rattle.esc_sql.proofs.Forms.{same_value}

-- a text of so many bytes that is one command
abbrev bare : Command → ℕ → Compiled
bare command n = record { command = command; returning = None; names = []; formats = []; start = 0; end = n; tail = n }

bare_is : (schema : Schema) → (understood schema begin_text ≡ Ok (bare Begin 15)) × (understood
    schema commit_text ≡ Ok (bare Commit 6)) × (understood schema rollback_text ≡ Ok (bare Rollback 8))
unfolding understood everything
bare_is schema = (refl, refl, refl)

-- what such a text does where it succeeds, and what it may commit
module _ (text : List ℕ) (command : Command)
    (n : ℕ) (is : (schema : Schema) → understood schema text ≡ Ok (bare command n)) where
  runs_bare : (old new : State) (count : ℕ)
      → Executes text [] old new (Ok count) → (t : List ℕ) × Runs old new None command t [] count
  runs_bare old new count h =
      let it = is old.now.schema in (
        _,
        runs_as text [] old new old.now.schema refl command (ap command_of it)
            (subst IsPlain (sym it) (refl, refl)) count h,
      )

  may_commit : (s : State) (trees : Trees)
      → CommitsBy text [] s trees → (t : List ℕ) × MayCommit s None command t [] trees
  unfolding CommitsBy
  may_commit s trees h =
      let same : h.0 ≡ bare command n = same_value (sym h.1.is ∙ is s.now.schema) in (
        text_of text (bare command n),
        subst (λ (c : Compiled). MayCommit
            s c.returning c.command (text_of text c) (timed [] c.formats h.1.now) trees) same h.2,
      )

-- BEGIN commits nothing
pub begin_commits_none : (s : State) (trees : Trees) → ¬ CommitsBy begin_text [] s trees
begin_commits_none s trees h =
    let m = (may_commit begin_text Begin 15 (λ s. (bare_is s).0) s trees h).1 in grind (arith, m)

-- ROLLBACK commits nothing
pub rollback_commits_none : (s : State) (trees : Trees) → ¬ CommitsBy rollback_text [] s trees
rollback_commits_none s trees h =
    let m = (may_commit rollback_text Rollback 8 (λ s. (bare_is s).2) s trees h).1 in grind (arith, m)

-- COMMIT leaves what there is now
pub commit_leaves : (s : State) (trees : Trees) → CommitsBy commit_text [] s trees → trees ≡ s.now.trees
commit_leaves s trees h =
    let m = (may_commit commit_text Commit 6 (λ s. (bare_is s).1) s trees h).1 in grind (arith, m)

-- COMMIT and ROLLBACK fail outside a transaction, or as the database fails
module _ (old new : State)
    (e : Error) (command : Command) (ends : (command ≡ Commit) ⊎ (command ≡ Rollback)) (text : List ℕ)
    (n : ℕ) (is : understood old.now.schema text ≡ Ok (bare command n)) (long : length text ≤ n) where
  no_fault : ¬ IsNoStatement old text [] e
  no_fault (inl h) = let a = h.1 in cc
  no_fault (inr h) =
      let same : h.0 ≡ bare command n = same_value (sym h.1 ∙ is) in
      let it = rw same at h.2 in
      grind (arith, it)

  ran : RunsAlone false old new text (bare command n) [] (Err e) → new.in_transaction ≡ false
  ran h = elim (cases_Bool (shows_rows false (bare command n))) [
    | inl shows ↦ absurd (grind arith)
    | inr runs ↦ let it = rw runs at h in grind (arith, it)
  ]

  pub over : Executes text [] old new (Err e) → new.in_transaction ≡ false
  unfolding ExecutesIn IsNotRun
  over (inl h) = grind (arith, no_fault)
  over (inr h) =
      let same : h.0 ≡ bare command n = same_value (sym h.1.is ∙ is) in
      ran (subst (λ (c : Compiled). RunsAlone false old new text c (timed [] c.formats h.1.now) (Err e)) same h.2)

module _ (old new : State) where
  pub fails_keeps : (text : List ℕ) (e : Error) → Executes text [] old new (Err e) → KeepsCommit old new
  fails_keeps text e h = unchanged_keeps old new (fails_whole old new false text [] e h)

  -- ---- BEGIN IMMEDIATE
  pub begin_shows : (count : ℕ) → Executes begin_text [] old new (Ok count)
      → Shows old new old.now old.committed true × (old.in_transaction ≡ false)
  begin_shows count h = let r = (runs_bare begin_text Begin 15 (λ s. (bare_is s).0) old new count h).1 in (r.1, r.0)

  pub begin_keeps : (count : ℕ) → Executes begin_text [] old new (Ok count) → KeepsCommit old new
  begin_keeps count h = let s = (begin_shows count h).0 in
      record { was_open = λ _. s.was_open; committed = λ _. s.committed_is }

  pub begin_ends : (e : Error)
      → Executes begin_text [] old new (Err e) → old.in_transaction ≡ false → new.in_transaction ≡ false
  begin_ends e h out = elim (fails_whole old new false begin_text [] e h)
      [ inl same ↦ same.0.mode ∙ out | inr undone ↦ undone.autocommit ]

  -- ---- COMMIT
  pub commit_shows : (count : ℕ)
      → Executes commit_text [] old new (Ok count) → Shows old new old.now old.now false
  commit_shows count h = (runs_bare commit_text Commit 6 (λ s. (bare_is s).1) old new count h).1.1

  pub commit_ends : (e : Error) → Executes commit_text [] old new (Err e) → new.in_transaction ≡ false
  commit_ends e h = over old new e Commit (inl refl) commit_text 6 (bare_is old.now.schema).1 (omega arith) h

  -- ---- ROLLBACK
  rolled_back : (count : ℕ) → Executes rollback_text [] old new (Ok count) → IsRolledBack old new
  rolled_back count h = (runs_bare rollback_text Rollback 8 (λ s. (bare_is s).2) old new count h).1.1

  pub rollback_ends : (r : Result ℕ Error) → Executes rollback_text [] old new r → new.in_transaction ≡ false
  rollback_ends (Ok count) h = (rolled_back count h).autocommit
  rollback_ends (Err e) h =
      over old new e Rollback (inr refl) rollback_text 8 (bare_is old.now.schema).2 (omega arith) h

  pub rollback_keeps : (r : Result ℕ Error) → Executes rollback_text [] old new r → KeepsCommit old new
  rollback_keeps (Ok count) h = unchanged_keeps old new (inr (rolled_back count h))
  rollback_keeps (Err e) h = fails_keeps rollback_text e h

  -- inside a transaction it is undone, also where ROLLBACK itself fails
  pub rollback_undoes : (r : Result ℕ Error) → Executes rollback_text [] old new r
      → IsTrue new.is_open → IsTrue old.in_transaction → new.now ≡ old.committed
  rollback_undoes (Ok count) h up inside = ((rolled_back count h).undone up).0
  rollback_undoes (Err e) h up inside = let f = fails_whole old new false rollback_text [] e h in
      let out = rollback_ends (Err e) h in grind (arith, f, out)
