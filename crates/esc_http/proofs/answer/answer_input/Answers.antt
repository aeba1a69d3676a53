use Rattle.std.proofs.Common.{None, refl, take, inl, sym, subst, List, ℕ, []}
use Rattle.std.proofs.lemmas.Result.{IfOk-weaker}
use Rattle.esc_request.specs.declared.refusal.Refusal.TheVariants.{BadRequest}
use Rattle.esc_request.specs.Head.{IsUnfinished}
use Rattle.esc_request.specs.Pieces.{ReadsWhile}
use Rattle.esc_request.specs.PieceLaws.{read_then, read_weaker}
use Rattle.esc_http.specs.Answering.{refused, IsUndecided}
use Rattle.esc_http.proofs.AnswerLemmas.{text_is, headless, asked}
use Rattle.esc_http.proofs.FaultLemmas.{answer_is, not_refusal, tells_none}
use Rattle.esc_http.proofs.answer.answer_input.Goals as goal

pub returns-in-None-clause-answers : goal.returns-in-None-clause-answers
returns-in-None-clause-answers g c =
    let none = rw c.in-None.is at c.in_ok-found.ensures.none in (
      refused BadRequest,
      headless _ none,
      answer_is g.S.Store _ _ (refused BadRequest) _ c.refusal_response.result None c.answer_with.ensures
          (refl, text_is _ c.refusal_response.result c.refusal_response.ensures.text)
          (tells_none c.refusal_response.result _ c.refusal_response.ensures.text (not_refusal BadRequest)),
    )

pub returns-in-Some-clause-answers : goal.returns-in-Some-clause-answers
returns-in-Some-clause-answers g c =
    let (h, at, has) = rw c.in-Some.is at c.in_ok-found.ensures.head in
    let took = rw c.in-Some.is at c.in_ok-found.ensures.bytes in
    let front = take c.in-Some.found.filled c.read_head.new.buffer in
    IfOk-weaker c.answer_head.result _ _ (λ text got. let (request, is, answered) = got h at in
    (request, asked _ _ front c.in-Some.found.spans.len h request took has is, answered))
    c.answer_head.ensures.answers

pub returns-in-None-clause-unread : goal.returns-in-None-clause-unread
returns-in-None-clause-unread g c =
    let (bytes, read, is) = c.in_ok-found.ensures.awaited in
    (bytes, read_weaker IsUnfinished IsUndecided (λ l may. inl may) _ _ _ _ read)

pub returns-in-Some-clause-unread : goal.returns-in-Some-clause-unread
returns-in-Some-clause-unread g c =
    let (bytes, read, said) = c.in_ok-found.ensures.awaited in
    let is = rw c.in-Some.is at said in
    let head = read_weaker IsUnfinished IsUndecided (λ l may. inl may) _ _ [] bytes read in
    let (last, body) = c.answer_head.ensures.unread in
    let read = λ (l : List ℕ). ReadsWhile IsUndecided (g.R.Source.pieces c.read_head.new.source)
    (g.R.Source.pieces c.answer_head.new.source) l last in
    (last, read_then IsUndecided _ _ _ [] bytes last head (subst read (sym is) body))

pub returns-in_err-found-clause-unread : goal.returns-in_err-found-clause-unread
returns-in_err-found-clause-unread g c =
    let (bytes, read, is) = c.read_head.ensures.awaited in
    (bytes, read_weaker IsUnfinished IsUndecided (λ l may. inl may) _ _ _ _ read)
