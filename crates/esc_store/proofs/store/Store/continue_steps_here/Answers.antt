use Rattle.esc_store.proofs.Common.{◌∙◌, take, get_or, arith, take_more, take_all}
use Rattle.esc_store.proofs.RowSteps.{steps_cut, steps_more, step_nth, same_length}
use Rattle.esc_store.proofs.store.Store.continue_steps_here.Goals as goal

pub loop-at-init : goal.loop-at-init
loop-at-init g c = record {
  manifest = c.in_ok-clear_steps_from_here.ensures.manifest;
  writes = c.in_ok-clear_steps_from_here.ensures.writes;
  step = λ rows e. steps_cut c.args.from c.in_ok-clear_steps_from_here.ensures.step;
}

pub loop-at-preserved : goal.loop-at-preserved
loop-at-preserved g c =
    let now = c.loop-at.invariant in
    let from = c.args.from in
    record {
      manifest = c.add_step_here.ensures.manifest ∙ now.manifest;
      writes = c.add_step_here.ensures.writes ∙ now.writes;
      step = λ rows e.
          let size = same_length from c.args.steps.now rows e in
          rw (take_more rows c.loop-at.at 0 (omega arith)) (steps_more from (take c.loop-at.at rows)
          (get_or rows c.loop-at.at 0) _ (step_nth from c.args.steps.now rows c.loop-at.at
          _ e c.loop-at-test.true) (now.step rows e) c.in_ok-add_step_here.ensures.step);
    }

pub returns-clause-step : goal.returns-clause-step
returns-clause-step g c = λ rows e.
    let size = same_length c.args.from c.args.steps.now rows e in
    rw (take_all c.loop-at.at rows (let past = c.loop-at-test.false in omega arith))
    at (c.loop-at.invariant.step rows e)
