use Rattle.esc_sql.proofs.Calls.{rules, makes, holds_body}
use Rattle.esc_sql.proofs.held.insert_held.Goals as goal

pub returns : goal.returns
returns g c = record {
  part = makes g.S.Store (holds_body _) c.write_within.ensures (search rules);
}
