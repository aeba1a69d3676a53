use Rattle.std.proofs.Common.{List, [], ◌∷◌, ◌++◌, ℕ, Some, inl, inr, IsSome, refl, sym, subst}
use Rattle.std.proofs.lemmas.Option.{none-some}
use Rattle.sha2.specs.Sha256.{sha256}
use Rattle.esc_tables.specs.Reading.{reading}
use Rattle.esc_store.specs.StoreState.{with_parked}
use Rattle.esc_store.specs.StandingLaws.{was_honest}
use Rattle.esc_events.specs.declared.assessment.Assessment.TheVariants.{Unlisted}
use Rattle.esc_events.specs.declared.parking.Parking.TheVariants.{Free}
use Rattle.esc_events.specs.ArrivalValue.{an_arrival}
use Rattle.esc_events.specs.Events.EventValue.{arrived}
use Rattle.esc_events.specs.Parks.{IsParking}
use Rattle.esc_events.specs.StateAfter.{AreBooks}
use Rattle.esc_desk.specs.declared.edit.Storing.TheVariants.{Park}
use Rattle.esc_desk.specs.Decisions.{IsDecidedArrival}
use Rattle.esc_desk.specs.Edits.{receipted}
use Rattle.esc_desk.proofs.DecidingArrivals.{decided_there, decided_parked, parked_besides}
use Rattle.esc_desk.proofs.EditSteps.{edit_fault_then}
use Rattle.esc_desk.proofs.intake.decide_unlisted.Goals as goal

pub returns-in-Needless-clause-decided : goal.returns-in-Needless-clause-decided
returns-in-Needless-clause-decided g c = λ clean e n k stood is.
    let a = an_arrival n c.args.content.body.now in
    let at = subst (IsParking k.parked c.args.content.digest)
    c.in-Needless.is (c.in_ok-parking_of.ensures.parking clean k stood) in
    let some = subst (λ (d : List ℕ). IsSome (k.parked d)) c.args.content.is_digest at in
    subst (IsDecidedArrival e a k Unlisted) (sym c.still.ensures)
    (decided_there is (λ unlisted. some) (λ q here. absurd (none-some _ here)))

pub returns-in-Free-clause-decided : goal.returns-in-Free-clause-decided
returns-in-Free-clause-decided g c = λ clean e n k stood is.
    let a = an_arrival n c.args.content.body.now in
    let at = subst (IsParking k.parked c.args.content.digest)
    c.in-Free.is (c.in_ok-parking_of.ensures.parking clean k stood) in
    let free = subst (λ (d : List ℕ). IsParking k.parked d Free) c.args.content.is_digest at in
    let books = subst (λ (d : List ℕ). AreBooks sha256 reading (e ++ arrived a ∷ [])
    (with_parked (receipted c.args.noted.receipt k) d (Some c.args.content.body.now)))
    (sym c.args.content.is_digest) (is.parked refl free) in
    subst (IsDecidedArrival e a k Unlisted) (sym c.still-in-Free.ensures)
    (decided_parked is (Park c.args.content.digest c.args.content.body) refl
    (parked_besides is c.args.content.digest c.args.content.body.now) books)

pub returns-in-Crowded-clause-cause : goal.returns-in-Crowded-clause-cause
returns-in-Crowded-clause-cause g c = elim c.crowded_fault.ensures.cause [
  | inl full ↦ inl (
    full.0,
    refl,
    λ clean k stood.
        let at = subst (IsParking k.parked c.args.content.digest)
        c.in-Crowded.is (c.in_ok-parking_of.ensures.parking
        (was_honest c.crowded_fault.ensures.same clean) k stood) in
        (at, full.1 clean k (c.in_ok-parking_of.ensures.same.stands k stood)),
  )
  | inr other ↦ inr (edit_fault_then
      g.S.Store _ _ _ c.args.noted.receipt c.crowded_fault.result c.in_ok-parking_of.ensures.same other)
]
