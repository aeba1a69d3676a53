use Rattle.esc_store.proofs.Common.{◌≡◌, ◌+◌, map, take, step_row, steps_from}
use Rattle.esc_store.proofs.codec.step.stored_steps.Given as goal

abbrev pub invariant-loop-at : goal.invariant-loop-at
invariant-loop-at l = map step_row l.stored.items
    ≡ steps_from (l.front + 1) (take l.at (map (λ step. step.row) l.steps))
