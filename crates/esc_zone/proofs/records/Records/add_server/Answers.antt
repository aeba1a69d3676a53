use Rattle.std.proofs.Common.{rules}
use Rattle.esc_zone.specs.Records.Data.{server}
use Rattle.esc_zone.proofs.records.Records.add_server.Goals as goal

pub add-requires : goal.add-requires
add-requires c = (server c.args.name.now, c.as_bytes.ensures.name, search rules)
