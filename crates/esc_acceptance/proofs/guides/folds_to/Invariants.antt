use Rattle.std.proofs.Common.{◌≡◌, ◌≤◌, drop, length}
use Rattle.esc_acceptance.specs.Guides.{folds_to}
use Rattle.esc_acceptance.proofs.guides.folds_to.Given as goal

-- what is left decides
abbrev pub invariant-loop-byte : goal.invariant-loop-byte
invariant-loop-byte l = record {
  same : folds_to l.name l.wanted ≡ folds_to (drop l.byte-index l.name) (drop l.at l.wanted);
  within : l.at ≤ length l.wanted;
}
