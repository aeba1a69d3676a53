use Rattle.esc_sql.proofs.Calls.{rules, makes, adds_object}
use Rattle.esc_sql.proofs.object.insert_object.Goals as goal

pub returns : goal.returns
returns g c = record {
  part = makes g.S.Store (adds_object _ _ _) c.write_within.ensures (search rules);
}
