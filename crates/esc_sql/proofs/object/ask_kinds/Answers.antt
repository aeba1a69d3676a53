use Rattle.esc_sql.proofs.Calls.{refl, tells, shows_kinds}
use Rattle.esc_sql.proofs.object.ask_kinds.Goals as goal

pub returns : goal.returns
returns g c = record { read = tells shows_kinds c.query_all.ensures refl }
