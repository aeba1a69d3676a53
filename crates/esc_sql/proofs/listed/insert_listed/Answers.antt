use Rattle.esc_sql.proofs.Calls.{rules, makes, puts_listed, bound_text}
use Rattle.std.specs.Prelude.{string_bytes}
use Rattle.esc_sql.proofs.listed.insert_listed.Goals as goal

pub returns : goal.returns
returns g c = record {
  part = makes g.S.Store (puts_listed _) c.write_within.ensures
      (search (rules, bound_text string_bytes c.args.listed.now.prev));
}
