use Rattle.std.proofs.Common.{inl, inr, sym, subst, Some, None}
use Rattle.esc_reports.specs.Reports.{IsReport}
use Rattle.esc_http.specs.Answering.{wants}
use Rattle.esc_http.proofs.AnswerLemmas.{text_is, leaves_still}
use Rattle.esc_http.proofs.FaultLemmas.{answer_is, not_report, tells_none, tells_some}
use Rattle.esc_http.proofs.answer.answer_report.Goals as goal

pub returns-in-Ok-clause-answers : goal.returns-in-Ok-clause-answers
returns-in-Ok-clause-answers g c =
    let what = wants c.args.what in
    answer_is g.S.Store _ _ what _ c.report_response.result None c.answer_with.ensures (
      c.report.ensures.read.follows,
      leaves_still g.S.Store _ _ c.report.ensures.read.follows,
      inl (record {
        body = c.deref.result.now;
        is = λ clean e serves. subst (IsReport e c.args.what)
            (sym c.deref.ensures.value) (c.in-Ok.ensures.text clean e serves);
        sends = text_is _ c.report_response.result c.report_response.ensures;
      }),
    )
    (tells_none c.report_response.result _ c.report_response.ensures (not_report c.args.what _))

pub returns-in-Err-clause-answers : goal.returns-in-Err-clause-answers
returns-in-Err-clause-answers g c =
    let what = wants c.args.what in
    answer_is g.S.Store _ _ what _ c.fault_response.result (Some c.in-Err.fault) c.answer_with-in-Err.ensures (
      c.report.ensures.read.follows,
      leaves_still g.S.Store _ _ c.report.ensures.read.follows,
      inr (record {
        fault = c.in-Err.fault;
        cause = c.in-Err.ensures.cause;
        sends = text_is _ c.fault_response.result c.fault_response.ensures;
      }),
    )
    (tells_some c.fault_response.result c.in-Err.fault c.fault_response.ensures)
