use Rattle.esc_sql.proofs.Calls.{rules, tells, shows_length}
use Rattle.esc_sql.proofs.parked.ask_length.Goals as goal

pub returns : goal.returns
returns g c = record { read = tells (shows_length _) c.query_all.ensures (search rules) }
