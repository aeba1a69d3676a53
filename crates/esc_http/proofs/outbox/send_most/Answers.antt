use Rattle.std.proofs.Common.{sym, ◌∙◌}
use Rattle.esc_http.proofs.ExportLemmas.{on_err_any, passes_but_last}
use Rattle.esc_http.proofs.outbox.send_most.Goals as goal

pub returns-in_err-send-clause-err : goal.returns-in_err-send-clause-err
returns-in_err-send-clause-err g c =
    let (sent, unsent, parts, appends) = c.in_err-send.ensures.err in
    on_err_any c.from_residual.result
    (_, passes_but_last _ _ _ _ sent unsent _ (sym c.deref.ensures.value ∙ c.in-Some.ensures.cases.0) parts appends)
