use Rattle.std.proofs.Common.{◌≡◌, ◌≤◌, ℕ, length, false, rules, sym, ◌∙◌, ap, subst, Err}
use Rattle.std.proofs.lemmas.Result.{on_ok_weaker, on_err_weaker, IfErr-at_err}
use Rattle.esc_store.specs.Faults.{IsFailure}
use Rattle.esc_reports.specs.declared.catalog.Report.TheVariants.{Export as an_export}
use Rattle.esc_http.specs.Exports.{IsCut}
use Rattle.esc_http.specs.Response.{report_response}
use Rattle.esc_http.proofs.AnswerLemmas.{unchanged_then}
use Rattle.esc_http.proofs.ExportLemmas.{err_again}
use Rattle.esc_http.proofs.CutLemmas.{kept_then, kept_begins, body_of, begins_response, part_of_response}
use Rattle.esc_http.proofs.CutLemmas.{whole_response, answered_whole, answered_cut, answered_fault}
use Rattle.esc_http.proofs.export.serve_export.Goals as goal

pub returns-in-Err-clause-ok : goal.returns-in-Err-clause-ok
returns-in-Err-clause-ok g c =
    on_ok_weaker c.send_fault.result (λ sent. (
      sent.0,
      answered_fault g.S.Store _ _ (an_export c.args.kind) c.in-Err.fault sent.0
          c.begin_export.ensures.same c.in-Err.ensures.cause sent.1,
      sent.2,
    )) c.send_fault.ensures.ok

pub returns-in-Err-clause-wrote : goal.returns-in-Err-clause-wrote
returns-in-Err-clause-wrote g c =
    on_err_weaker c.send_fault.result (λ sent. (
      sent.0,
      answered_fault g.S.Store _ _ (an_export c.args.kind) c.in-Err.fault sent.0
          c.begin_export.ensures.same c.in-Err.ensures.cause sent.1,
      sent.2,
    )) c.send_fault.ensures.err

pub returns-in-Ok-send_counted-clause-same : goal.returns-in-Ok-send_counted-clause-same
returns-in-Ok-send_counted-clause-same g c =
    unchanged_then g.S.Store _ c.begin_export.new.desk _ c.begin_export.ensures.same c.send_counted.ensures.same

pub returns-in-Ok-send_counted-clause-ok : goal.returns-in-Ok-send_counted-clause-ok
returns-in-Ok-send_counted-clause-ok g c =
    let (text, is, head, counted) = c.in-Ok.ensures.ready in
    let (again, size, appends, sent) = c.in-Ok-send_counted.ensures.ok in (
      report_response (an_export c.args.kind) again,
      answered_whole g.S.Store _ c.begin_export.new.desk _ c.args.kind text again
          c.begin_export.ensures.same c.send_counted.ensures.same counted sent,
      whole_response c.args.kind _ _ text again _ _ head is size appends,
    )

pub returns-in-Export-clause-same : goal.returns-in-Export-clause-same
returns-in-Export-clause-same g c =
    unchanged_then g.S.Store _ c.begin_export.new.desk _ c.begin_export.ensures.same c.send_counted.ensures.same

pub returns-in-Export-clause-ok : goal.returns-in-Export-clause-ok
returns-in-Export-clause-ok g c =
    let is = c.in-Err-send_counted.is ∙ ap Err c.in-Export.is in
    let (taken, stops, says) = c.send_counted.ensures.export_wrote c.in-Export.fault is in
    let unsent : c.send_counted.new.outbox.has_sent ≡ false = search rules in
    let kept = stops.unsent unsent in
    let same =
    unchanged_then g.S.Store _ c.begin_export.new.desk _ c.begin_export.ensures.same c.send_counted.ensures.same in
    let cause = IfErr-at_err (IsCut IsFailure _) is c.send_counted.ensures.cause in
    on_ok_weaker c.send_fault-in-Export.result (λ sent. (
      sent.0,
      answered_fault g.S.Store _ _ (an_export c.args.kind) c.in-Export.fault sent.0 same cause sent.1,
      kept_then _ _ _ _ kept.1 sent.2,
    )) c.send_fault-in-Export.ensures.ok

pub returns-in-Export-clause-wrote : goal.returns-in-Export-clause-wrote
returns-in-Export-clause-wrote g c =
    let is = c.in-Err-send_counted.is ∙ ap Err c.in-Export.is in
    let (taken, stops, says) = c.send_counted.ensures.export_wrote c.in-Export.fault is in
    let unsent : c.send_counted.new.outbox.has_sent ≡ false = search rules in
    let kept = stops.unsent unsent in
    let same =
    unchanged_then g.S.Store _ c.begin_export.new.desk _ c.begin_export.ensures.same c.send_counted.ensures.same in
    let cause = IfErr-at_err (IsCut IsFailure _) is c.send_counted.ensures.cause in
    on_err_weaker c.send_fault-in-Export.result (λ sent. (
      sent.0,
      answered_fault g.S.Store _ _ (an_export c.args.kind) c.in-Export.fault sent.0 same cause sent.1,
      kept_begins _ _ _ _ kept.1 sent.2,
    )) c.send_fault-in-Export.ensures.err

pub returns-clause-same : goal.returns-clause-same
returns-clause-same g c =
    unchanged_then g.S.Store _ c.begin_export.new.desk _ c.begin_export.ensures.same c.send_counted.ensures.same

pub returns-clause-wrote : goal.returns-clause-wrote
returns-clause-wrote g c =
    let (text, is, head, counted) = c.in-Ok.ensures.ready in
    let (taken, fits, begins, says) = c.in-Err-send_counted.ensures.wrote in
    let within = subst (λ (n : ℕ). length taken ≤ n) (sym is) fits in (
      report_response (an_export c.args.kind) (body_of text taken),
      answered_cut g.S.Store _ c.begin_export.new.desk _ c.args.kind text taken
          c.begin_export.ensures.same c.send_counted.ensures.same counted says,
      begins_response c.args.kind _ _ text _ taken head within begins,
    )

pub returns-clause-export_wrote : goal.returns-clause-export_wrote
returns-clause-export_wrote g c = λ fault was.
    let same : c.match-cut.cut ≡ c.in-Err-send_counted.fault = search rules in
    let (text, is, head, counted) = c.in-Ok.ensures.ready in
    let (taken, stops, says) = c.in-Err-send_counted.ensures.export_wrote fault
    (err_again _ _ (ap Err (sym same) ∙ was)) in
    let within = subst (λ (n : ℕ). length taken ≤ n) (sym is) stops.within in (
      body_of text taken,
      answered_cut g.S.Store _ c.begin_export.new.desk _ c.args.kind text taken
          c.begin_export.ensures.same c.send_counted.ensures.same counted says,
      part_of_response c.args.kind _ _ text _ taken stops.waits head within stops.passes,
    )
