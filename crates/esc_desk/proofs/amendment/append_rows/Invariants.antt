use Rattle.std.proofs.Common.{◌≡◌, ◌++◌, take}
use Rattle.esc_desk.proofs.amendment.append_rows.Given as goal

-- the rows that were gone over come after those that were there
abbrev pub invariant-loop-row : goal.invariant-loop-row
invariant-loop-row l = l.rows.items ≡ l.fn.rows.items ++ take l.row-index l.more
