use Rattle.std.proofs.Common.{inl, inr, Some, None}
use Rattle.esc_events.specs.ArrivalValue.{an_arrival}
use Rattle.esc_http.specs.Answering.{arrives}
use Rattle.esc_http.proofs.AnswerLemmas.{text_is}
use Rattle.esc_http.proofs.FaultLemmas.{answer_is, not_reply, tells_none, tells_some}
use Rattle.esc_http.proofs.answer.answer_arrival.Goals as goal

pub returns-in-Ok-clause-answers : goal.returns-in-Ok-clause-answers
returns-in-Ok-clause-answers g c =
    let arrived = arrives (an_arrival c.args.number.now c.args.body.now) in
    answer_is g.S.Store _ _ arrived _ c.reply_response.result None c.answer_with.ensures
    (inl (record {
      reply = _;
      work = _;
      answers = λ clean e serves. c.in-Ok.ensures.answered clean e serves;
      left = λ e doubtful serves left. c.in-Ok.ensures.crash e doubtful serves left;
      sends = text_is _ c.reply_response.result c.reply_response.ensures;
    }))
    (tells_none c.reply_response.result _ c.reply_response.ensures (not_reply _))

pub returns-in-Err-clause-answers : goal.returns-in-Err-clause-answers
returns-in-Err-clause-answers g c =
    let arrived = arrives (an_arrival c.args.number.now c.args.body.now) in
    answer_is g.S.Store _ _ arrived _ c.fault_response.result (Some c.in-Err.cause) c.answer_with-in-Err.ensures
    (inr (record {
      kept = c.in-Err.ensures.whole.lost;
      fault = c.in-Err.cause;
      is_one = c.in-Err.ensures.cause;
      cause = c.in-Err.ensures.full;
      left = λ e doubtful serves left. c.in-Err.ensures.crash e doubtful serves left;
      sends = text_is _ c.fault_response.result c.fault_response.ensures;
    }))
    (tells_some c.fault_response.result c.in-Err.cause c.fault_response.ensures)
