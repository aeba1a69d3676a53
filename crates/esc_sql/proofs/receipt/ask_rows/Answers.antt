use Rattle.esc_sql.proofs.Calls.{rules, tells, shows_rows}
use Rattle.esc_sql.proofs.receipt.ask_rows.Goals as goal

pub returns : goal.returns
returns g c = record { read = tells (shows_rows _) c.query_all.ensures (search rules) }
