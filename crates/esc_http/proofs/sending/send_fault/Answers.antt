use Rattle.std.proofs.Common.{sym, subst, Option}
use Rattle.esc_store.specs.declared.fault.StoreFault.{StoreFault}
use Rattle.esc_http.specs.Answering.{TellsFault, text_or_memory}
use Rattle.esc_http.proofs.AnswerLemmas.{text_is}
use Rattle.esc_http.proofs.ExportLemmas.{on_err_any}
use Rattle.esc_http.proofs.FaultLemmas.{tells_some}
use Rattle.esc_http.proofs.sending.send_fault.Goals as goal

pub returns-clause-ok : goal.returns-clause-ok
returns-clause-ok g c =
    (_, text_is _ c.fault_response-text.result c.fault_response-text.ensures, c.in_ok-send_answer.ensures.ok)

pub returns-clause-refused : goal.returns-clause-refused
returns-clause-refused g c =
    let text = text_or_memory c.fault_response-text.result in (
      _,
      c.in_ok-send_answer.ensures.ok,
      subst (λ (told : Option StoreFault). TellsFault told text) (sym c.told_of.ensures)
          (tells_some c.fault_response-text.result c.args.fault c.fault_response-text.ensures),
    )

pub returns-in_err-send_answer-clause-err : goal.returns-in_err-send_answer-clause-err
returns-in_err-send_answer-clause-err g c =
    on_err_any c.from_residual.result
    (_, text_is _ c.fault_response-text.result c.fault_response-text.ensures, c.in_err-send_answer.ensures.err)
