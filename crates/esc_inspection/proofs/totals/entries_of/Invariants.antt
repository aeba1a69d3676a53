use Rattle.std.proofs.Common.{◌≡◌, ◌++◌}
use Rattle.esc_inspection.proofs.totals.entries_of.Given as goal

-- what was taken, and the entries that are left
abbrev pub invariant-loop-kind : goal.invariant-loop-kind
invariant-loop-kind l = l.entries.items ++ l.kind-iterator ≡ l.numbers.entries
