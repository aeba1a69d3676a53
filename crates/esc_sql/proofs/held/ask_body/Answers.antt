use Rattle.esc_sql.proofs.Calls.{rules, tells, finds_body}
use Rattle.esc_sql.proofs.held.ask_body.Goals as goal

pub returns : goal.returns
returns g c = record { read = tells (finds_body _) c.query_all.ensures (search rules) }
