use Rattle.esc_store.proofs.Common.{◌≡◌, List, ℕ, map, take, step_row, step_at, steps_from}
use Rattle.esc_store.proofs.codec.step.steps_of.Given as goal

abbrev pub invariant-loop-at : goal.invariant-loop-at
invariant-loop-at l = (rows : List ℕ) → map step_row l.stored ≡ steps_from 1 rows
    → l.steps.items ≡ map (step_at l.manifest) (take l.at rows)
