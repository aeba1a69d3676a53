use Rattle.std.proofs.Common.{subst, arith}
use Rattle.esc_events.specs.ArrivalValue.{ArrivalValue}
use Rattle.esc_desk.specs.declared.event.Outcome.TheVariants.{Done, Lost}
use Rattle.esc_desk.specs.Asked.{as_event, as_outcome}
use Rattle.esc_desk.specs.Calls.{IsCause, DeskLeavesEvent, writes_of}
use Rattle.esc_desk.proofs.RunLemmas.{answers_same, serves_without, leaves_without, worked_lost}
use Rattle.esc_desk.proofs.desk.Desk.take_arrival.Goals as goal

pub returns-in-Ok-clause-taken : goal.returns-in-Ok-clause-taken
returns-in-Ok-clause-taken g c = λ clean e served.
    answers_same g.S.Store _ _ e _ _ _ c.in-Ok._work
    c.arrival.view_is (c.in-Ok.ensures.answered clean e served) c.in-Ok.ensures.whole.counted

pub returns-in-Ok-clause-crash : goal.returns-in-Ok-clause-crash
returns-in-Ok-clause-crash g c = λ e doubtful served left.
    subst (λ (x : ArrivalValue). DeskLeavesEvent g.S.Store c.arrive.new.self e doubtful (as_event x)
    (as_outcome (Done c.in-Ok.reply))) c.arrival.view_is
    (c.in-Ok.ensures.crash e doubtful served left)

pub returns-in-Err-clause-taken : goal.returns-in-Err-clause-taken
returns-in-Err-clause-taken g c = λ clean e served. record {
  serves = serves_without g.S.Store _ e (c.in-Err.ensures.whole.lost e served);
  answer = subst (λ (x : ArrivalValue). IsCause e x c.in-Err.fault)
      c.arrival.view_is (c.in-Err.ensures.full clean e served);
  worked = worked_lost e (writes_of c.args.self.now) _ (omega arith) c.in-Err.ensures.whole.uncounted;
}

pub returns-in-Err-clause-crash : goal.returns-in-Err-clause-crash
returns-in-Err-clause-crash g c = λ e doubtful served left.
    subst (λ (x : ArrivalValue). DeskLeavesEvent g.S.Store c.arrive.new.self e doubtful (as_event x)
    (as_outcome (Lost c.in-Err.fault))) c.arrival.view_is
    (λ apart cache. leaves_without g.S.Store c.arrive.new.self e _ (c.in-Err.ensures.crash e doubtful served left))
