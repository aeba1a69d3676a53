use Rattle.esc_sql.proofs.Calls.{rules, makes, adds_step}
use Rattle.esc_sql.proofs.step.insert_step.Goals as goal

pub returns : goal.returns
returns g c = record {
  part = makes g.S.Store (adds_step _) c.write_within.ensures (search rules);
}
