use Rattle.std.proofs.Common.{rules}
use Rattle.esc_zone.specs.Records.Data.{address}
use Rattle.esc_zone.proofs.records.Records.add_address.Goals as goal

pub add-requires : goal.add-requires
add-requires c = (address c.args.at.now, search rules, search rules)
