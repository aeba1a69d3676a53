use Rattle.esc_sql.proofs.Calls.{rules, makes, removes_parked}
use Rattle.esc_sql.proofs.parked.delete_parked.Goals as goal

pub returns : goal.returns
returns g c = record {
  part = makes g.S.Store (removes_parked _) c.write_within.ensures (search rules);
}
