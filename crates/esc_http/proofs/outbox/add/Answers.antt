use Rattle.std.proofs.Common.{refl, sym, append-nil, []}
use Rattle.esc_http.proofs.ExportLemmas.{on_err_any, stops_before, stops_full}
use Rattle.esc_http.proofs.outbox.add.Goals as goal

pub returns-in_err-put_by-clause-err : goal.returns-in_err-put_by-clause-err
returns-in_err-put_by-clause-err g c =
    on_err_any c.from_residual.result ([], c.args.bytes.now, refl, stops_before _ _ _ c.put_by.ensures.sent)

pub returns-in_err-send_most-clause-err : goal.returns-in_err-send_most-clause-err
returns-in_err-send_most-clause-err g c =
    let (waits, passes) = c.in_err-send_most.ensures.err in
    on_err_any c.from_residual-in_err-send_most.result (
      c.args.bytes.now,
      [],
      sym (append-nil c.args.bytes.now),
      stops_full _ _ _ c.put_by.new.outbox _ c.args.bytes.now waits
          c.in_ok-put_by.ensures.waiting c.in_ok-put_by.ensures.left c.send_most.ensures.sent passes,
    )
