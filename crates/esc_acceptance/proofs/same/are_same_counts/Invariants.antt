use Rattle.std.proofs.Common.{◌≡◌, drop}
use Rattle.esc_acceptance.proofs.same.are_same_counts.Given as goal

-- if what is left is the same, so is the whole
abbrev pub invariant-loop-kind : goal.invariant-loop-kind
invariant-loop-kind l = l.kind-iterator ≡ drop l.at l.others → l.counts.entries ≡ l.others
