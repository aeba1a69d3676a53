use Rattle.std.proofs.Common.{◌≡◌, ◌++◌, map, drop}
use Rattle.esc_apply.specs.declared.front.Step.{Step}
use Rattle.esc_inspection.proofs.kept_chain.rows_of.Given as goal

-- with the steps that are left it is the whole
abbrev pub invariant-loop-step : goal.invariant-loop-step
invariant-loop-step l = l.rows.items ++ map (λ (s : Step). s.row) (drop l.step-index l.steps)
    ≡ map (λ (s : Step). s.row) l.steps
