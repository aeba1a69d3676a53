use Rattle.esc_store.proofs.RowSteps.{step_next}
use Rattle.esc_store.proofs.store.Store.add_next_here.Goals as goal

pub returns-clause-step : goal.returns-clause-step
returns-clause-step g c =
    step_next _ _ _ c.last_here.result c.in_ok-last.last c.args.receipt.now _ _ _ c.in_ok-goes_on.ensures.on
    c.last_here.ensures.read.look c.in_ok-last.was c.in-Ok.ensures.row c.in_ok-add_receipt_here.ensures.step
