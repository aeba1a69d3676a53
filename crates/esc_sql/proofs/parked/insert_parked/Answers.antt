use Rattle.esc_sql.proofs.Calls.{rules, makes, puts_parked}
use Rattle.esc_sql.proofs.parked.insert_parked.Goals as goal

pub returns : goal.returns
returns g c = record {
  part = makes g.S.Store (puts_parked _ _) c.write_within.ensures (search rules);
}
