use Rattle.esc_store.proofs.Common.{◌≡◌, List, ℕ, map, take, Ok, state, step_row, StoreFault}
use Rattle.esc_store.proofs.Common.{steps_from, ContinuesSteps, IsStep}
use Rattle.esc_store.proofs.store.Store.continue_steps_here.Given as goal

abbrev pub invariant-loop-at : goal.invariant-loop-at
invariant-loop-at g l = record {
  manifest : l.self.manifest ≡ l.fn.self.manifest;
  writes : l.self.writes ≡ l.fn.self.writes;
  step : (rows : List ℕ) → map step_row l.steps ≡ steps_from l.from rows
      → IsStep {X = Unit {0}} {E = StoreFault} (state g.S.Store l.fn.self.conn)
      (state g.S.Store l.self.conn) (ContinuesSteps l.from (take l.at rows)) (Ok tt);
}
