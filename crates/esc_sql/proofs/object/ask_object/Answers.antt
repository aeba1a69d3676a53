use Rattle.esc_sql.proofs.Calls.{rules, tells, finds_object}
use Rattle.esc_sql.proofs.object.ask_object.Goals as goal

pub returns : goal.returns
returns g c = record { read = tells (finds_object _ _) c.query_all.ensures (search rules) }
