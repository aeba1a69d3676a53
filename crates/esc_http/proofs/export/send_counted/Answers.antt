use Rattle.esc_http.proofs.ExportLemmas.{on_err_any, stops_there}
use Rattle.esc_http.proofs.CutLemmas.{begins, begins_then, begins_whole, sends_all, all_came}
use Rattle.esc_http.proofs.export.send_counted.Goals as goal

pub returns-clause-ok : goal.returns-clause-ok
returns-clause-ok g c =
    let (text, hands, says) = c.in_ok-send_export.ensures.ok in (
      text,
      all_came _ _ _ hands.left c.if-outbox-gt0.false,
      sends_all _ _ _ _ _ _ _ hands.passes c.deref.ensures.value c.in_ok-send.ensures.ok,
      says,
    )

pub returns-in_err-send_export-clause-wrote : goal.returns-in_err-send_export-clause-wrote
returns-in_err-send_export-clause-wrote g c =
    let (taken, stops, says) = c.in_err-send_export.ensures.err in
    on_err_any c.from_residual.result (taken, stops.within, begins stops.passes, says)

pub returns-in_err-send_export-clause-export_wrote : goal.returns-in_err-send_export-clause-export_wrote
returns-in_err-send_export-clause-export_wrote g c = λ fault is. c.in_err-send_export.ensures.err

pub returns-then-outbox-gt0-clause-wrote : goal.returns-then-outbox-gt0-clause-wrote
returns-then-outbox-gt0-clause-wrote g c =
    let (text, hands, says) = c.in_ok-send_export.ensures.ok in (
      text,
      (stops_there hands).within,
      begins hands.passes,
      λ honest e reflects. begins_whole c.args.kind text e (says honest e reflects),
    )

pub returns-then-outbox-gt0-clause-export_wrote : goal.returns-then-outbox-gt0-clause-export_wrote
returns-then-outbox-gt0-clause-export_wrote g c = λ fault is.
    let (text, hands, says) = c.in_ok-send_export.ensures.ok in (
      text,
      stops_there hands,
      λ honest e reflects. begins_whole c.args.kind text e (says honest e reflects),
    )

pub returns-in_err-send-clause-wrote : goal.returns-in_err-send-clause-wrote
returns-in_err-send-clause-wrote g c =
    let (text, hands, says) = c.in_ok-send_export.ensures.ok in
    on_err_any c.from_residual-in_err-send.result (
      text,
      (stops_there hands).within,
      begins_then _ _ _ _ _ _ _ hands.passes c.deref.ensures.value c.in_err-send.ensures.err,
      λ honest e reflects. begins_whole c.args.kind text e (says honest e reflects),
    )
