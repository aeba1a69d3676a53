use Rattle.esc_sql.proofs.Calls.{rules, tells, finds_parked}
use Rattle.esc_sql.proofs.parked.ask_parked.Goals as goal

pub returns : goal.returns
returns g c = record { read = tells (finds_parked _) c.query_all.ensures (search rules) }
