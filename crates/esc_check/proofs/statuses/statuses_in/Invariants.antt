use Rattle.std.proofs.Common.{◌≡◌, ◌++◌, drop, map}
use Rattle.std.specs.List.{flat_map}
use Rattle.esc_check.specs.Gathered.{row_status}
use Rattle.esc_check.proofs.statuses.statuses_in.Given as goal

abbrev pub invariant-loop-row : goal.invariant-loop-row
invariant-loop-row l = map (λ s. s.now) l.statuses.items ++ flat_map (row_status l.table)
    (drop l.row-index l.children) ≡ flat_map (row_status l.table) l.children
