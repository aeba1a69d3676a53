use Rattle.std.proofs.Common.{◌≡◌, ◌≤◌, ◌++◌, length}
use Rattle.std.specs.List.{slice_split}
use Rattle.esc_zone.specs.Names.{is_dot}
use Rattle.esc_zone.proofs.Wire.{wire_labels}
use Rattle.esc_zone.proofs.signer.wire_name.Given as goal

abbrev pub invariant-loop-at : goal.invariant-loop-at
invariant-loop-at l = record {
  wire : l.wire.items ++ wire_labels (slice_split is_dot l.rest) ≡ wire_labels (slice_split is_dot l.fn.name);
  short : length l.rest ≤ 253;
}

abbrev pub decreases-loop-at : goal.decreases-loop-at
decreases-loop-at l = length l.rest
