use Rattle.esc_store.proofs.Parts.{step_is}
use Rattle.esc_store.proofs.store.Store.add_step_here.Goals as goal

pub returns-clause-step : goal.returns-clause-step
returns-clause-step g c = step_is c.settle.ensures.settled c.insert_step-done.ensures.part
