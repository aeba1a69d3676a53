use Rattle.std.proofs.Common.{◌≡◌, ◌≤◌, length, take}
use Rattle.esc_events.specs.Plans.{rows_in_steps}
use Rattle.esc_desk.proofs.moves.same_rows.Given as goal

abbrev pub invariant-loop-at : goal.invariant-loop-at
invariant-loop-at l = record {
  in_new : l.at ≤ length l.new;
  same : take l.at (rows_in_steps l.old) ≡ take l.at (rows_in_steps l.new);
}
