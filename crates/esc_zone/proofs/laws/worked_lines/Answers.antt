use Rattle.std.proofs.Common.{refl}
use Rattle.std.specs.Fmt.{digits}
use Rattle.std.specs.Net.Text.{hex, hex_groups_text, ipv6_text}
use Rattle.hex.specs.Hex.{encode_with}
use Rattle.esc_zone.proofs.laws.worked_lines.Goals as goal

pub returns : goal.returns
unfolding digits hex hex_groups_text ipv6_text encode_with
returns c = record {
  server = refl;
  signer = refl;
  v4 = refl;
  v6 = refl;
  mapped = refl;
}
