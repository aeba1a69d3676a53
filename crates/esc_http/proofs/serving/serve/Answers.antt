use Rattle.std.proofs.Common.{IfSome, subst}
use Rattle.std.proofs.lemmas.Result.{on_ok_weaker, IfErr-at_err}
use Rattle.esc_store.specs.Faults.{IsFailure}
use Rattle.esc_store.specs.StandingLaws.{was_honest}
use Rattle.esc_desk.specs.declared.desk.Desk.{Desk}
use Rattle.esc_desk.specs.Calls.{IsHonestDesk}
use Rattle.esc_reports.specs.declared.catalog.Report.TheVariants.{Export as an_export}
use Rattle.esc_http.specs.Answering.{Request, Asks, IsAnswered, wants}
use Rattle.esc_http.specs.Exports.{IsCut}
use Rattle.esc_http.specs.Response.{report_response}
use Rattle.esc_http.proofs.serving.serve.Goals as goal

pub returns-in_ok-send_answer-in-Text-clause-ok : goal.returns-in_ok-send_answer-in-Text-clause-ok
returns-in_ok-send_answer-in-Text-clause-ok g c =
    let (request, is, answer) = rw c.in-Text.is at c.in_ok-text.ensures.answers in
    (request, _, is, answer.0, c.in_ok-send_answer-in-Text.ensures.ok)

pub returns-in_ok-send_answer-in-Text-clause-refused : goal.returns-in_ok-send_answer-in-Text-clause-refused
returns-in_ok-send_answer-in-Text-clause-refused g c =
    let (request, is, answer) = rw c.in-Text.is at c.in_ok-text.ensures.answers in
    (_, c.in_ok-send_answer-in-Text.ensures.ok, answer.1)

pub returns-in_err-send_answer-in-Text-clause-write_wrote : goal.returns-in_err-send_answer-in-Text-clause-write_wrote
returns-in_err-send_answer-in-Text-clause-write_wrote g c = λ _.
    let (request, is, answer) = rw c.in-Text.is at c.in_ok-text.ensures.answers in
    (request, _, is, answer.0, c.in_err-send_answer-in-Text.ensures.err)

pub returns-in-Export-clause-ok : goal.returns-in-Export-clause-ok
returns-in-Export-clause-ok g c =
    let (request, is, same) = rw c.in-Export.is at c.in_ok-text.ensures.answers in
    let what = wants (an_export c.in-Export.kind) in
    let asks = subst (λ (r : Request). IfSome
    (g.R.Source.remaining c.args.source.now) (λ input. Asks input r)) same.0 is in
    on_ok_weaker c.serve_export.result (λ sent. (
      what,
      sent.0,
      asks,
      subst (λ (d : Desk _). IsAnswered g.S.Store d c.serve_export.new.desk what sent.0) same.1 sent.1,
      sent.2,
    )) c.serve_export.ensures.ok

pub returns-in-Export-clause-honest : goal.returns-in-Export-clause-honest
returns-in-Export-clause-honest g c =
    let (request, is, same) = rw c.in-Export.is at c.in_ok-text.ensures.answers in
    λ clean. subst (IsHonestDesk g.S.Store) same.1 (was_honest c.serve_export.ensures.same.same clean)

pub returns-in-Export-clause-read_failed : goal.returns-in-Export-clause-read_failed
returns-in-Export-clause-read_failed g c =
    λ is. absurd (IfErr-at_err (IsCut IsFailure _) is c.serve_export.ensures.cause)

pub returns-in-Export-clause-read_wrote : goal.returns-in-Export-clause-read_wrote
returns-in-Export-clause-read_wrote g c =
    λ is. absurd (IfErr-at_err (IsCut IsFailure _) is c.serve_export.ensures.cause)

pub returns-in-Export-clause-read_arrived : goal.returns-in-Export-clause-read_arrived
returns-in-Export-clause-read_arrived g c =
    λ is. absurd (IfErr-at_err (IsCut IsFailure _) is c.serve_export.ensures.cause)

pub returns-in-Export-clause-write_failed : goal.returns-in-Export-clause-write_failed
returns-in-Export-clause-write_failed g c = λ is. IfErr-at_err (IsCut IsFailure _) is c.serve_export.ensures.cause

pub returns-in-Export-clause-write_wrote : goal.returns-in-Export-clause-write_wrote
returns-in-Export-clause-write_wrote g c = λ was.
    let (request, is, same) = rw c.in-Export.is at c.in_ok-text.ensures.answers in
    let what = wants (an_export c.in-Export.kind) in
    let asks = subst (λ (r : Request). IfSome
    (g.R.Source.remaining c.args.source.now) (λ input. Asks input r)) same.0 is in
    let sent = IfErr-at_err _ was c.serve_export.ensures.wrote in (
      what,
      sent.0,
      asks,
      subst (λ (d : Desk _). IsAnswered g.S.Store d c.serve_export.new.desk what sent.0) same.1 sent.1,
      sent.2,
    )

pub returns-in-Export-clause-export_cause : goal.returns-in-Export-clause-export_cause
returns-in-Export-clause-export_cause g c = λ fault is. IfErr-at_err (IsCut IsFailure _) is c.serve_export.ensures.cause

pub returns-in-Export-clause-export_wrote : goal.returns-in-Export-clause-export_wrote
returns-in-Export-clause-export_wrote g c = λ fault was.
    let (request, is, same) = rw c.in-Export.is at c.in_ok-text.ensures.answers in
    let what = wants (an_export c.in-Export.kind) in
    let asks = subst (λ (r : Request). IfSome
    (g.R.Source.remaining c.args.source.now) (λ input. Asks input r)) same.0 is in
    let sent = c.serve_export.ensures.export_wrote fault was in (
      c.in-Export.kind,
      sent.0,
      asks,
      subst (λ (d : Desk _). IsAnswered g.S.Store d c.serve_export.new.desk what
          (report_response (an_export c.in-Export.kind) sent.0)) same.1 sent.1,
      sent.2,
    )
