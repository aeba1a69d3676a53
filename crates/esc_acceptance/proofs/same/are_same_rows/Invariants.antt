use Rattle.std.proofs.Common.{◌≡◌, take}
use Rattle.esc_acceptance.proofs.same.are_same_rows.Given as goal

-- the rows so far are the same
abbrev pub invariant-loop-at : goal.invariant-loop-at
invariant-loop-at l = take l.at l.rows ≡ take l.at l.others
