use Rattle.std.proofs.Common.{◌≡◌, ◌+◌, take}
use Rattle.std.specs.List.{sum_by}
use Rattle.esc_apply.specs.Registry.{saturated}
use Rattle.esc_deposit.specs.Cuts.{row_bound}
use Rattle.esc_deposit.proofs.cut.object_size.Given as goal

-- the parent row, and the child rows so far
abbrev pub invariant-loop-row : goal.invariant-loop-row
invariant-loop-row l = record {
  rows : l.size.rows ≡ saturated (1 + l.row-index);
  bytes : l.size.bytes ≡ saturated (row_bound l.object.parent + sum_by row_bound (take l.row-index l.object.children));
}
