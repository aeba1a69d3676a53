use Rattle.esc_sql.proofs.Calls.{refl, tells, finds_moment}
use Rattle.esc_sql.proofs.moment.ask_moment.Goals as goal

pub returns : goal.returns
returns g c = record { read = tells finds_moment c.query_all.ensures refl }
