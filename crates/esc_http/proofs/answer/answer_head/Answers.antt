use Rattle.std.proofs.Common.{None, refl, sym, subst, ap, List, ℕ}
use Rattle.std.proofs.lemmas.List.{take_rest}
use Rattle.std.proofs.lemmas.Result.{IfOk-weaker}
use Rattle.esc_http.specs.declared.request_plan.RequestPlan.{RequestPlan}
use Rattle.esc_http.specs.declared.request_plan.RequestPlan.TheVariants.{Put}
use Rattle.esc_http.specs.RequestPlans.{plan_of_head}
use Rattle.esc_http.specs.Answering.{refused, wants, request_with_body, IsUndecided}
use Rattle.esc_request.specs.Head.{HasHead}
use Rattle.esc_request.specs.PieceLaws.{read_no_piece}
use Rattle.esc_http.proofs.AnswerLemmas.{text_is, always, same_request, memory_answers_some, undecided}
use Rattle.esc_http.proofs.FaultLemmas.{answer_is, not_refusal, tells_none}
use Rattle.esc_http.proofs.answer.answer_head.Goals as goal

pub returns-in-Refuse-clause-answers : goal.returns-in-Refuse-clause-answers
returns-in-Refuse-clause-answers g c = λ h at. (
  refused c.in-Refuse.refusal,
  always _ _
      (λ rest. ap (λ (p : RequestPlan). request_with_body p rest) (c.in-Refuse.ensures h at)),
  answer_is g.S.Store _ _ (refused c.in-Refuse.refusal) _ c.refusal_response.result None c.answer_with-in-Refuse.ensures
      (refl, text_is _ c.refusal_response.result c.refusal_response.ensures.text)
      (tells_none c.refusal_response.result _ c.refusal_response.ensures.text (not_refusal c.in-Refuse.refusal)),
)

pub returns-in-Get-clause-answers : goal.returns-in-Get-clause-answers
returns-in-Get-clause-answers g c = λ h at. (
  wants c.in-Get.report,
  always _ _ (λ rest. ap (λ (p : RequestPlan). request_with_body p rest) (c.in-Get.ensures h at)),
  c.answer_report.ensures.answers,
)

pub returns-clause-answers : goal.returns-clause-answers
returns-clause-answers g c =
    IfOk-weaker c.answer_put.result _ _ (λ text got h at. (
      got.0,
      same_request _ _ _ (Put c.in-Put.number c.in-Put.size) (plan_of_head h)
          got.0 (take_rest c.args.head.bytes.now c.args.head.found.now.spans.len) (c.in-Put.ensures h at) got.1,
      got.2,
    )) c.answer_put.ensures.answers

pub returns-in_default-clause-answers : goal.returns-in_default-clause-answers
returns-in_default-clause-answers g c = λ h at.
    memory_answers_some g.S.Store c.args.desk.now _ (plan_of_head h) _ c.answer_with.ensures

pub returns-in-Refuse-clause-unread : goal.returns-in-Refuse-clause-unread
returns-in-Refuse-clause-unread g c = (_, read_no_piece IsUndecided _ c.args.head.bytes.now)

pub returns-in-Get-clause-unread : goal.returns-in-Get-clause-unread
returns-in-Get-clause-unread g c = (_, read_no_piece IsUndecided _ c.args.head.bytes.now)

pub returns-in_default-clause-unread : goal.returns-in_default-clause-unread
returns-in_default-clause-unread g c = (_, read_no_piece IsUndecided _ c.args.head.bytes.now)

pub returns-clause-unread : goal.returns-clause-unread
returns-clause-unread g c =
    let (h, at, has) = c.requires.head in
    let front = subst (λ (rest : List ℕ). HasHead c.args.head.bytes.now h rest)
    (sym (take_rest c.args.head.bytes.now c.args.head.found.now.spans.len)) has in
    undecided _ _ c.args.head.bytes.now _ _ h
    c.in-Put.number c.in-Put.size front (sym (c.in-Put.ensures h at)) c.answer_put.ensures.unread.1
