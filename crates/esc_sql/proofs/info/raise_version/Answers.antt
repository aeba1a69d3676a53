use Rattle.esc_sql.proofs.Calls.{refl, makes, raises}
use Rattle.esc_sql.proofs.info.raise_version.Goals as goal

pub returns : goal.returns
returns g c = record { part = makes g.S.Store raises c.write_within.ensures refl }
