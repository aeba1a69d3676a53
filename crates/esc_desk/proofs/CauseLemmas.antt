-- Why an arrival is lost, from one call to the next.
use Rattle.std.proofs.Common.{◌≡◌, inl, inr, ℕ, List, Option, IsSome, Result, Err, IfErr, sym, ap}
use Rattle.std.proofs.Common.{subst, ◌∙◌}
use Rattle.sha2.specs.Sha256.{sha256}
use Rattle.esc_tables.specs.Reading.{reading}
use Rattle.esc_manifest.specs.declared.row.MRow.{MRow}
use Rattle.esc_store.specs.declared.fault.StoreFault.{StoreFault}
use Rattle.esc_store.specs.declared.fault.StoreFault.TheVariants.{Failed, NoMemory, NotAStore, NoRoom, NoPlace}
use Rattle.esc_store.specs.Faults.{IsFailed, IsFailure}
use Rattle.esc_store.specs.StoreState.{StoreState, IsFull}
use Rattle.esc_events.specs.Apart.{WhereApart}
use Rattle.esc_events.specs.ArrivalValue.{ArrivalValue}
use Rattle.esc_events.specs.Events.{EventValue}
use Rattle.esc_events.specs.Assessment.{row_with_digest}
use Rattle.esc_events.specs.StateAfter.{AreBooks, IsApart}
use Rattle.esc_desk.specs.Again.{IsUnkept}
use Rattle.esc_desk.specs.Calls.{HasNoPlace, IsCause}
use Rattle.esc_desk.specs.Causes.{IsCrowded}

-- what is so of the error is so of the result
pub if_err_is : {X E : Type 0} (r : Result X E) (f : E) (P : E → Type 0) → r ≡ Err f → P f → IfErr r P
if_err_is r f P is p = rw is p

-- a store that failed is a cause of its own
cause_failed : (e : List EventValue) (a : ArrivalValue) (f : StoreFault) → IsFailed f → IsCause e a f
cause_failed e a (Failed cause) is = tt
cause_failed e a NoMemory is = absurd is
cause_failed e a NotAStore is = absurd is
cause_failed e a NoRoom is = absurd is
cause_failed e a NoPlace is = absurd is

-- a failure of the store or want of memory is a cause of its own
pub cause_by : (e : List EventValue) (a : ArrivalValue) (f : StoreFault) → IsFailure f → IsCause e a f
cause_by e a f (inl is) = cause_failed e a f is
cause_by e a f (inr is) = subst (IsCause e a) (sym is) tt

-- ---- no place, by what a store keeps

still_full : {p q : List ℕ → Option (List ℕ)} → ((d : List ℕ) → p d ≡ q d) → IsFull p → IsFull q
still_full same full = record {
  digests = full.digests;
  are = record {
    rising = full.are.rising;
    each = λ d. (
      λ there. subst IsSome (same d) ((full.are.each d).0 there),
      λ some. (full.are.each d).1 (subst IsSome (sym (same d)) some),
    );
  };
  many = full.many;
}

module _ (e : List EventValue) (a : ArrivalValue) (k : StoreState) (books : AreBooks sha256 reading e k) where
  pub crowded_of : IsApart sha256 reading e → HasNoPlace e a → IsCrowded k.listed k.parked (sha256 a.body)
  crowded_of apart full =
      let (unlisted, there) = full.crowded in (
        ap (λ (m : List MRow). row_with_digest m (sha256 a.body)) books.listed ∙ unlisted,
        (books.parked apart (sha256 a.body) ∙ there.0, still_full (λ d. sym (books.parked apart d)) there.1),
      )

  pub no_place_of : IsUnkept e a → IsCrowded k.listed k.parked (sha256 a.body) → WhereApart e (HasNoPlace e a)
  no_place_of unkept (unlisted, there) apart = record {
    unkept = unkept;
    crowded = (
      ap (λ (m : List MRow). row_with_digest m (sha256 a.body)) (sym books.listed) ∙ unlisted,
      (sym (books.parked apart (sha256 a.body)) ∙ there.0, still_full (books.parked apart) there.1),
    );
  }
