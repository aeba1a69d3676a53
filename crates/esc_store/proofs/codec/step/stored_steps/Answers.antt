use Rattle.esc_store.proofs.Common.{◌+◌, ◌∙◌, map, ap, arith, map-append, step_row}
use Rattle.esc_store.proofs.RowSteps.{steps_stored}
use Rattle.esc_store.proofs.codec.step.stored_steps.Goals as goal

pub loop-at-preserved : goal.loop-at-preserved
loop-at-preserved c = ap (map step_row) c.in_ok-push.ensures.items ∙ map-append step_row c.loop-at.stored.items _
    ∙ steps_stored (c.args.front + 1) _ _ _ _ _ _ c.loop-at.invariant
    c.loop-at-test.true (omega (arith, c.in_ok-pos.ensures.number)) c.in_ok-row.ensures.number
