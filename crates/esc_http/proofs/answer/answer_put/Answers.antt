use Rattle.std.proofs.Common.{refl, None}
use Rattle.esc_http.specs.declared.request_plan.RequestPlan.TheVariants.{Put}
use Rattle.esc_request.specs.declared.refusal.Refusal.TheVariants.{BadRequest}
use Rattle.esc_http.specs.Answering.{arrives, refused}
use Rattle.esc_http.proofs.AnswerLemmas.{text_is, whole_arrives, cut_refused, memory_answers_some}
use Rattle.esc_http.proofs.FaultLemmas.{answer_is, not_refusal, tells_none}
use Rattle.esc_http.proofs.answer.answer_put.Goals as goal

pub returns-in-Whole-clause-answers : goal.returns-in-Whole-clause-answers
returns-in-Whole-clause-answers g c =
    let body = rw c.in-Whole.is at c.in_ok-body.ensures.body in
    let number = c.args.number.now in
    let seen = c.deref.result.now in (
      arrives (record { number = number; body = seen }),
      whole_arrives
          _ number _ seen c.args.body.size c.deref.ensures.value body,
      c.answer_arrival.ensures.answers,
    )

pub returns-in-Cut-clause-answers : goal.returns-in-Cut-clause-answers
returns-in-Cut-clause-answers g c =
    let body = rw c.in-Cut.is at c.in_ok-body.ensures.body in (
      refused BadRequest,
      cut_refused _ c.args.number.now c.args.body.size body,
      answer_is g.S.Store _ _ (refused BadRequest) _ c.refusal_response.result None c.answer_with.ensures
          (refl, text_is _ c.refusal_response.result c.refusal_response.ensures.text)
          (tells_none c.refusal_response.result _ c.refusal_response.ensures.text (not_refusal BadRequest)),
    )

pub returns-in-NoMemory-clause-answers : goal.returns-in-NoMemory-clause-answers
returns-in-NoMemory-clause-answers g c =
    memory_answers_some g.S.Store c.args.desk.now _ (Put c.args.number.now c.args.body.size)
    _ c.answer_with-in-NoMemory.ensures
