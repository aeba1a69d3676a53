use Rattle.esc_store.proofs.Common.{◌∙◌, ap, arith, map, take_all, step_at}
use Rattle.esc_store.proofs.Decoding.{one_step}
use Rattle.esc_store.proofs.RowSteps.{same_length}
use Rattle.esc_store.proofs.codec.step.steps_of.Goals as goal

pub loop-at-preserved : goal.loop-at-preserved
loop-at-preserved c = λ rows e. c.in_ok-push.ensures.items ∙ one_step
    _ _ rows _ _ _ _ e c.loop-at-test.true (c.loop-at.invariant rows e) c.in_ok-step.ensures.step

pub returns-clause-steps : goal.returns-clause-steps
returns-clause-steps c = λ rows e. c.loop-at.invariant rows e ∙ ap (map (step_at c.args.manifest.now))
    (take_all c.loop-at.at rows (omega (arith, same_length 1 c.args.stored.now rows e)))
