use Rattle.esc_sql.proofs.Calls.{rules, makes, removes_images}
use Rattle.esc_sql.proofs.undo.delete_undo.Goals as goal

pub returns : goal.returns
returns g c = record {
  part = makes g.S.Store (removes_images _) c.write_within.ensures (search rules);
}
