use Rattle.std.proofs.Common.{rules}
use Rattle.esc_zone.specs.Records.Data.{signer}
use Rattle.esc_zone.specs.Signers.{ds_value}
use Rattle.esc_zone.proofs.records.Records.add_ds.Goals as goal

pub add-requires : goal.add-requires
add-requires c = (signer (ds_value c.args.ds.now), search rules, search rules)
