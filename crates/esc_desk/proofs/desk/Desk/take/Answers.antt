use Rattle.std.proofs.Common.{List, subst, ◌∙◌, arith}
use Rattle.esc_manifest.specs.declared.row.MRow.{MRow}
use Rattle.esc_events.specs.Events.EventValue.{moved}
use Rattle.esc_desk.specs.Amendments.{IsAmendCause}
use Rattle.esc_desk.specs.Asked.{amendment_of}
use Rattle.esc_desk.specs.Calls.{writes_of}
use Rattle.esc_desk.specs.Crashes.{doubtful_with}
use Rattle.esc_desk.proofs.NoRowMore.{rows_of_store}
use Rattle.esc_desk.proofs.RunLemmas.{amend_kind, serves_without, leaves_without, worked_lost, worked_once}
use Rattle.esc_desk.proofs.desk.Desk.take.Goals as goal

pub returns-in-Arrival-clause-taken : goal.returns-in-Arrival-clause-taken
returns-in-Arrival-clause-taken g c =
    λ clean e served. rw c.in-Arrival.is (c.take_arrival.ensures.taken clean e served)

pub returns-in-Ok-clause-taken : goal.returns-in-Ok-clause-taken
returns-in-Ok-clause-taken g c = λ clean e served. rw c.in-Amend.is (
    let made = c.in-Ok.ensures.amended clean e served in
    record {
      serves = made.serves;
      answer = made.adds;
      worked = worked_once e
          (amendment_of c.in-Amend.text.now) c.in-Ok._work _ _ made.works c.in-Ok.ensures.whole.counted;
    })

pub returns-in-Err-clause-taken : goal.returns-in-Err-clause-taken
returns-in-Err-clause-taken g c = λ clean e served. rw c.in-Amend.is (
    let rows = rows_of_store g.S.Store _ _ served.serves.stands ∙ served.serves.stands_for.books.listed in
    record {
      serves = serves_without g.S.Store _ e (c.in-Err.ensures.whole.lost e served);
      answer = subst (λ (m : List MRow). IsAmendCause m c.in-Amend.text.now c.in-Err.fault)
          rows c.in-Err.ensures.cause;
      worked = worked_lost e (writes_of c.args.self.now) _ (omega arith) c.in-Err.ensures.whole.uncounted;
    })

pub returns-in-Err-clause-cause : goal.returns-in-Err-clause-cause
returns-in-Err-clause-cause g c = rw c.in-Amend.is (amend_kind _ _ c.in-Err.fault c.in-Err.ensures.cause)

pub returns-in-Ok-as_of-clause-taken : goal.returns-in-Ok-as_of-clause-taken
returns-in-Ok-as_of-clause-taken g c = λ clean e served. rw c.in-AsOf.is (
    let made = c.in-Ok-as_of.ensures.set clean e served in
    record {
      serves = made.serves;
      answer = tt;
      worked = worked_once e (moved c.in-AsOf.moment)
          c.in-Ok-as_of._work _ _ made.works c.in-Ok-as_of.ensures.whole.counted;
    })

pub returns-in-Err-as_of-clause-taken : goal.returns-in-Err-as_of-clause-taken
returns-in-Err-as_of-clause-taken g c = λ clean e served. rw c.in-AsOf.is (record {
  serves = serves_without g.S.Store _ e (c.in-Err-as_of.ensures.whole.lost e served);
  answer = tt;
  worked = worked_lost e (writes_of c.args.self.now) _ (omega arith) c.in-Err-as_of.ensures.whole.uncounted;
})

pub returns-in-Err-as_of-clause-crash : goal.returns-in-Err-as_of-clause-crash
returns-in-Err-as_of-clause-crash g c = λ e doubtful served left. rw c.in-AsOf.is
    (λ apart cache. leaves_without g.S.Store c.as_of.new.self e (doubtful_with c.in-Err-as_of.fault
    (moved c.in-AsOf.moment) doubtful) (c.in-Err-as_of.ensures.crash e doubtful served left))
