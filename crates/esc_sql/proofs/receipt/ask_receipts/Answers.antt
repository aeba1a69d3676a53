use Rattle.esc_sql.proofs.Calls.{refl, tells, shows_receipts}
use Rattle.esc_sql.proofs.receipt.ask_receipts.Goals as goal

pub returns : goal.returns
returns g c = record { read = tells shows_receipts c.query_all.ensures refl }
