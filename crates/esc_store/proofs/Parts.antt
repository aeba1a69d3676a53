-- What a part of a change does to what the change has made.
use Rattle.esc_store.proofs.Common.{◌≡◌, ◌∙◌, ℕ, List, refl, sym, ap, subst, Result, Ok, Err, IfErr}
use Rattle.esc_store.proofs.Common.{OnErr, IsErr, IfOk-at_ok, Ghosts, Database, state, HasCleanDisk}
use Rattle.esc_store.proofs.Common.{Survives, KeepsCommit, survives_then, parked_at, body_of, Settles}
use Rattle.esc_store.proofs.Common.{Content, object_at, image_at, Becomes, listed_from, receipts_from}
use Rattle.esc_store.proofs.Common.{steps_from, content_in, HoldsContent, content_is, IsPart, IsRead}
use Rattle.esc_store.proofs.Common.{StoreFault, Store, StoreState, IsBooks, IsRegistry, HoldsTables}
use Rattle.esc_store.proofs.Common.{IsStep, IsLook, was_clean, State as Tables}
use Rattle.std.specs.Prelude.{IfOk}
use Rattle.esc_sql.specs.Content.{moment_set}
use Rattle.sqlite.specs.State.{State}
use Rattle.esc_store.specs.Faults.{IsFailure}
use Rattle.esc_store.specs.Representation.{IsGivenUp}
use Rattle.esc_store.proofs.Ends.{keeps_then}

-- ---- from statements to steps

-- what holds once the outcome of a statement is settled
abbrev pub Settled : {S X D : Type 0}
    → Ghosts S → Store S → Store S → Result X D → Result X StoreFault → Type 0
Settled g before new outcome result = record {
  manifest : new.manifest ≡ before.manifest;
  writes : new.writes ≡ before.writes;
  remembered : new.remembered ≡ before.remembered;
  settled : Settles g before new outcome result;
  cause : IfErr result IsFailure;
}

module _ (old : State) {mid new : State} (up : IsGivenUp mid new) where
  after : Survives old mid (λ trees. ⊥) → Survives old new (λ trees. ⊥)
  after survives = survives_then old mid new (λ trees. ⊥)
      (λ trees. ⊥) (λ trees. ⊥) (λ _ db none. none) (λ _ db none. none) survives up.survives

  keeps_after : (HasCleanDisk mid → KeepsCommit old mid) → HasCleanDisk new → KeepsCommit old new
  keeps_after kept clean = keeps_then old mid new (kept (was_clean up.survives clean)) (up.kept clean)

module _ {S : Type 0} {g : Ghosts S}
    {before new : Store S} {X D E : Type 0} {outcome : Result X D} {result : Result X E}
    (settled : Settles g before new outcome result) where
  -- what holds of a statement that succeeded, and of one that was given up
  by_outcome : (T : State → Result X E → Type 0)
      → ((x : X) → outcome ≡ Ok x → T (state g before.conn) (Ok x))
      → ((e : E) → IsGivenUp (state g before.conn) (state g new.conn) → T (state g new.conn) (Err e))
      → T (state g new.conn) result
  by_outcome T goes fails = elim result as (λ r. IfOk r (λ x. (outcome ≡ Ok x) × (new ≡ before)) → OnErr
      r (IsErr outcome × IsGivenUp (state g before.conn) (state g new.conn)) → T (state g new.conn) r) [
        | Ok x ↦ λ ok err. subst (λ (s : Store S). T (state g s.conn) (Ok x)) (sym ok.1) (goes x ok.0)
        | Err e ↦ λ ok err. fails e err.1
      ] settled.ok settled.err

  -- a statement within the transaction, settled
  pub step_is : {old : State} {Made : Database → Database → Type 0}
      → IsPart old (state g before.conn) Made outcome → IsStep old (state g new.conn) Made result
  step_is {old} {Made} part = by_outcome (λ s r. IsStep old s Made r)
      (λ x is. record {
        survives = part.survives;
        kept = part.kept;
        made = λ clean. let m = IfOk-at_ok _
            is (part.made clean) in (IfOk-at_ok _ is part.within, m.0, m.1, m.2);
        failed = λ clean. tt;
      })
      (λ e up. record {
        survives = after old up part.survives;
        kept = keeps_after old up part.kept;
        made = λ clean. tt;
        failed = λ clean. (up.ended clean, up.settled clean);
      })

  -- a read, settled
  pub look_is : {old : State} {Says : Database → X → Type 0}
      → IsRead old (state g before.conn) Says outcome → IsLook old (state g new.conn) Says result
  look_is {old} {Says} read = by_outcome (λ s r. IsLook old s Says r)
      (λ x is. record {
        survives = read.survives;
        kept = read.kept;
        said = λ clean. IfOk-at_ok _ is (read.said clean);
        failed = λ clean. tt;
      })
      (λ e up. record {
        survives = after old up read.survives;
        kept = keeps_after old up read.kept;
        said = λ clean. tt;
        failed = λ clean. (up.ended clean, up.settled clean);
      })

-- ---- a step

-- what a step makes of tables and what they hold
pub record Turns (R : Content → Content → Type 0) (old new : Database) : Type 0 where
  pub by : HoldsTables old → HoldsTables new × R (content_in old.trees) (content_in new.trees)

-- by the content that the new database holds
pub turning : {R : Content → Content → Type 0} {old new : Database} → (HoldsTables old
    → (c : Content) × HoldsContent new c × R (content_in old.trees) c) → Turns R old new
turning {R} {old} {new} f = record {
  by = λ tables. let (c, holds, r) = f tables in
      let e = sym (content_is new.trees c holds.store.rows) in
      (subst (HoldsContent new) e holds, subst (R (content_in old.trees)) e r);
}

-- what a change of the content turns into
pub record Becoming (change : Content → Content) (c c' : Content) : Type 0 where
  pub is : c' ≡ change c

-- what makes one content of another turns it into that
pub become_turns : (change : Content → Content) (old new : Database)
    → Becomes change old new → Turns (Becoming change) old new
become_turns change old new made = turning (λ tables.
    (change (content_in old.trees), made (content_in old.trees) tables, record { is = refl }))

-- what is kept, by each of its parts
pub books_as : {k : StoreState} {c d : Content} → c ≡ d → d.listed ≡ listed_from 0 k.listed
    → d.receipts ≡ receipts_from 1 k.receipts → ((row : ℕ) → body_of row d.held ≡ k.bodies row)
    → ((digest : List ℕ) → parked_at digest d.parked ≡ k.parked digest)
    → moment_set d.moment ≡ k.moment → d.steps ≡ steps_from 1 k.steps → IsBooks c k
books_as {k} is listed receipts held parked moment steps =
    subst (λ x. IsBooks x k) (sym is) (record {
      listed = listed;
      receipts = receipts;
      held = held;
      parked = parked;
      moment = moment;
      steps = steps;
    })

-- objects and before-images that stay
pub registry_same : {s : Tables} {c c' d : Content}
    → c' ≡ d → d.objects ≡ c.objects → d.undo ≡ c.undo → IsRegistry c s → IsRegistry c' s
registry_same {s} is objects undo it = subst (λ x. IsRegistry x s) (sym is) (record {
  objects = λ n text. ap (object_at n text) objects ∙ it.objects n text;
  images = λ step n text. ap (image_at step n text) undo ∙ it.images step n text;
  recorded = it.recorded;
  noted = it.noted;
})
