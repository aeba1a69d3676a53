use Rattle.esc_sql.proofs.Calls.{rules, tells, shows_images}
use Rattle.esc_sql.proofs.undo.ask_undo.Goals as goal

pub returns : goal.returns
returns g c = record { read = tells (shows_images _) c.query_all.ensures (search rules) }
