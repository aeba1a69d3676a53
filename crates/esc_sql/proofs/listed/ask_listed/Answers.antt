use Rattle.esc_sql.proofs.Calls.{refl, tells, shows_listed}
use Rattle.esc_sql.proofs.listed.ask_listed.Goals as goal

pub returns : goal.returns
returns g c = record { read = tells shows_listed c.query_all.ensures refl }
