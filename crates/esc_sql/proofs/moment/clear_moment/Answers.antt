use Rattle.esc_sql.proofs.Calls.{refl, makes, clears_moment}
use Rattle.esc_sql.proofs.moment.clear_moment.Goals as goal

pub returns : goal.returns
returns g c = record { part = makes g.S.Store clears_moment c.write_within.ensures refl }
