use Rattle.std.proofs.Common.{◌≡◌, ◌++◌, map, drop}
use Rattle.esc_store.specs.StoreState.{step_at}
use Rattle.esc_desk.proofs.plan.steps_of.Given as goal

-- the steps so far with those of the rows that are left are those of all rows
abbrev pub invariant-loop-row : goal.invariant-loop-row
invariant-loop-row l = l.steps.items ++ map (step_at l.rows) (drop l.row-index l.chain) ≡ map (step_at l.rows) l.chain
