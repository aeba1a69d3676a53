use Rattle.esc_sql.proofs.Calls.{refl, tells, shows_steps}
use Rattle.esc_sql.proofs.step.ask_steps.Goals as goal

pub returns : goal.returns
returns g c = record { read = tells shows_steps c.query_all.ensures refl }
