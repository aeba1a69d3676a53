use Rattle.esc_sql.proofs.Calls.{refl, tells, shows_last}
use Rattle.esc_sql.proofs.receipt.ask_last.Goals as goal

pub returns : goal.returns
returns g c = record { read = tells shows_last c.query_all.ensures refl }
