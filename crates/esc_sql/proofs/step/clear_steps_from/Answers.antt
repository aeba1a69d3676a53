use Rattle.esc_sql.proofs.Calls.{rules, makes, clears_steps_from}
use Rattle.esc_sql.proofs.step.clear_steps_from.Goals as goal

pub returns : goal.returns
returns g c = record {
  part = makes g.S.Store (clears_steps_from _) c.write_within.ensures (search rules);
}
