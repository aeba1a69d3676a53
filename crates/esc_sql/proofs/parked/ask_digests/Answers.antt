use Rattle.esc_sql.proofs.Calls.{refl, tells, shows_digests}
use Rattle.esc_sql.proofs.parked.ask_digests.Goals as goal

pub returns : goal.returns
returns g c = record { read = tells shows_digests c.query_all.ensures refl }
