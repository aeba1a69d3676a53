use Rattle.std.proofs.Common.{sym, subst, ◌∙◌}
use Rattle.std.proofs.lemmas.Option.{none-some}
use Rattle.esc_events.specs.ArrivalValue.{an_arrival}
use Rattle.esc_desk.specs.Decisions.{IsDecidedArrival}
use Rattle.esc_desk.proofs.DecidingArrivals.{decided_there}
use Rattle.esc_desk.proofs.Holding.{refused_listed, refused_row}
use Rattle.esc_desk.proofs.intake.decide_arrival.Goals as goal

pub returns-in-Unreadable-clause-decided : goal.returns-in-Unreadable-clause-decided
returns-in-Unreadable-clause-decided g c = λ clean e n k stood is.
    let refused = c.in-Unreadable.is in
    let found = c.args.assessed.found in
    subst (IsDecidedArrival e (an_arrival n c.args.assessed.content.body.now) k found) (sym c.still.ensures)
    (decided_there is (λ unlisted. absurd (refused_listed found refused unlisted))
    (λ q here. absurd (none-some _ (sym (refused_row found refused) ∙ here))))
