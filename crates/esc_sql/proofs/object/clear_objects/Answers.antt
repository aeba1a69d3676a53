use Rattle.esc_sql.proofs.Calls.{refl, makes, clears_objects}
use Rattle.esc_sql.proofs.object.clear_objects.Goals as goal

pub returns : goal.returns
returns g c = record { part = makes g.S.Store clears_objects c.write_within.ensures refl }
