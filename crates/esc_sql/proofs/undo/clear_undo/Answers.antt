use Rattle.esc_sql.proofs.Calls.{refl, makes, clears_undo}
use Rattle.esc_sql.proofs.undo.clear_undo.Goals as goal

pub returns : goal.returns
returns g c = record { part = makes g.S.Store clears_undo c.write_within.ensures refl }
