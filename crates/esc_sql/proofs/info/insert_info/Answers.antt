use Rattle.esc_sql.proofs.Calls.{refl, makes, makes_empty}
use Rattle.esc_sql.proofs.info.insert_info.Goals as goal

pub returns : goal.returns
returns g c = record { part = makes g.S.Store makes_empty c.write_within.ensures refl }
