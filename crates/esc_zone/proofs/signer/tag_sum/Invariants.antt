use Rattle.std.proofs.Common.{◌≡◌, ◌≤◌, ◌+◌, ◌*◌, length, drop}
use Rattle.esc_zone.specs.Signers.{tag_sum}
use Rattle.esc_zone.proofs.signer.tag_sum.Given as goal

abbrev pub invariant-loop-at : goal.invariant-loop-at
invariant-loop-at l = record {
  sum : l.total + tag_sum l.at (drop l.at l.bytes) ≡ tag_sum 0 l.bytes;
  small : l.total ≤ 65280 * l.at;
  few : length l.bytes ≤ 65535;
}
