use Rattle.esc_sql.proofs.Calls.{rules, makes, removes_object}
use Rattle.esc_sql.proofs.object.delete_object.Goals as goal

pub returns : goal.returns
returns g c = record {
  part = makes g.S.Store (removes_object _ _) c.write_within.ensures (search rules);
}
