use Rattle.std.proofs.Common.{◌≡◌, ◌++◌}
use Rattle.std.specs.List.{flat_map}
use Rattle.esc_check.specs.Counted.{came_of}
use Rattle.esc_check.specs.Gathered.{number_findings}
use Rattle.esc_check.proofs.count.check_came.Given as goal

abbrev pub invariant-loop-kind : goal.invariant-loop-kind
invariant-loop-kind l = l.found.items ++ flat_map (number_findings (came_of l.came)) l.kind-iterator
    ≡ l.fn.found.items ++ flat_map (number_findings (came_of l.came)) l.counts.entries
