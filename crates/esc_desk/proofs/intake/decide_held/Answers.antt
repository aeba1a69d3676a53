use Rattle.std.proofs.Common.{ℕ, IsSome, nat_eq, sym, ap, subst, ◌∙◌}
use Rattle.std.specs.List.{list_any}
use Rattle.std.proofs.lemmas.Option.{same_Some}
use Rattle.esc_events.specs.ArrivalValue.{an_arrival}
use Rattle.esc_events.specs.declared.assessment.Assessment.TheVariants.{Holding}
use Rattle.esc_events.specs.HeldLaws.{holding_listed}
use Rattle.esc_desk.specs.Decisions.{IsDecidedArrival}
use Rattle.esc_desk.proofs.DecidingArrivals.{decided_there}
use Rattle.esc_desk.proofs.KnownRows.{contained, no_body}
use Rattle.esc_desk.proofs.intake.decide_held.Goals as goal

pub returns-then-contains-clause-decided : goal.returns-then-contains-clause-decided
returns-then-contains-clause-decided g c = λ clean e n k stood is.
    let row = c.args.listed.row in
    let cache = c.args.noted.cache in
    let found = Holding row c.args.listed.deposit in
    let any = ap (list_any (λ q. nat_eq q row)) (sym c.deref.ensures.value) ∙ sym c.if-contains.ensures.value in
    let some = (is.held.each row).0 (contained cache.held_rows.items row any) in
    subst (IsDecidedArrival e (an_arrival n c.args.listed.body.now) k found) (sym c.still.ensures)
    (decided_there is (λ unlisted. absurd (holding_listed row c.args.listed.deposit unlisted))
    (λ q here. subst (λ (r : ℕ). IsSome (k.bodies r)) (same_Some _ _ here) some))

pub returns-clause-decided : goal.returns-clause-decided
returns-clause-decided g c = λ clean e n k stood is.
    let row = c.args.listed.row in
    let other = ap (list_any (λ q. nat_eq q row)) (sym c.deref.ensures.value) ∙ sym c.if-contains.ensures.value in
    c.decide_late.ensures.decided clean e n k stood is
    (no_body k.bodies c.args.noted.cache.held_rows.items is.held row other)
