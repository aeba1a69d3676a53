use Rattle.std.proofs.Common.{◌≡◌, ◌++◌}
use Rattle.std.specs.List.{flat_map}
use Rattle.std.specs.Map.{keys_of}
use Rattle.esc_check.specs.Gathered.{count_findings}
use Rattle.esc_check.proofs.count.check_counts.Given as goal

abbrev pub invariant-loop-kind : goal.invariant-loop-kind
invariant-loop-kind l =
    l.found.items ++ flat_map (count_findings (keys_of l.tables.entries)) l.kind-iterator
    ≡ l.fn.found.items ++ flat_map (count_findings (keys_of l.tables.entries)) l.counts.entries
