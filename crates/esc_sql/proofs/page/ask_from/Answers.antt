use Rattle.esc_sql.proofs.Calls.{rules, tells, shows_from}
use Rattle.esc_sql.proofs.page.ask_from.Goals as goal

pub returns : goal.returns
returns g c = record { read = tells (shows_from _ _) c.query_all.ensures (search rules) }
