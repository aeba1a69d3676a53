use Rattle.esc_sql.proofs.Calls.{rules, makes, sets_moment}
use Rattle.std.proofs.Common.{w64}
use Rattle.std.proofs.lemmas.Int.{to_z-of_z}
use Rattle.esc_sql.proofs.moment.insert_moment.Goals as goal

pub returns : goal.returns
returns g c = record {
  part = makes g.S.Store (sets_moment _) c.write_within.ensures
      (search (rules, to_z-of_z w64 c.args.watermark c.ranges.watermark));
}
