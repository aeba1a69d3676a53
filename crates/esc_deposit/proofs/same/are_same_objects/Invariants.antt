use Rattle.std.proofs.Common.{◌≡◌, drop}
use Rattle.esc_deposit.proofs.same.are_same_objects.Given as goal

-- if what is left is the same, so is the whole
abbrev pub invariant-loop-key : goal.invariant-loop-key
invariant-loop-key l = l.key-iterator ≡ drop l.at l.objects → l.tables.entries ≡ l.objects
