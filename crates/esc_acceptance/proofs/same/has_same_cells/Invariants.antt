use Rattle.std.proofs.Common.{◌≡◌, take}
use Rattle.esc_acceptance.proofs.same.has_same_cells.Given as goal

-- the cells so far are the same
abbrev pub invariant-loop-at : goal.invariant-loop-at
invariant-loop-at l = take l.at l.row.cells ≡ take l.at l.other.cells
