use Rattle.esc_sql.proofs.Calls.{rules, tells, finds_receipt}
use Rattle.esc_sql.proofs.receipt.ask_receipt.Goals as goal

pub returns : goal.returns
returns g c = record { read = tells (finds_receipt _ _) c.query_all.ensures (search rules) }
