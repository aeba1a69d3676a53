use Rattle.std.proofs.Common.{◌∙◌}
use Rattle.esc_pack.proofs.Members.{as_its_row}
use Rattle.esc_pack.proofs.forecast.is_as_listed.Goals as goal

pub returns : goal.returns
returns c = c.is_alike.ensures ∙ as_its_row c.args.row.now c.args.deposit.now
