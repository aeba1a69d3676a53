use Rattle.esc_store.proofs.Common.{◌∙◌, sym, ap, None, Some, receipt_row}
use Rattle.esc_store.proofs.Decoding.{found}
use Rattle.esc_store.proofs.codec.receipt.reply_found.Goals as goal

pub returns-in_ok-reply_of-in-Some-clause-reply : goal.returns-in_ok-reply_of-in-Some-clause-reply
returns-in_ok-reply_of-in-Some-clause-reply c = λ rs number digest is.
    let it = found c.args.manifest.now 1 number digest rs (Some (receipt_row c.in-Some.stored))
    (rw c.in-Some.is at is) in
    ap Some (c.in_ok-reply_of-in-Some.ensures.reply it.0 it.1 it.2) ∙ sym it.3

pub returns-in-None-clause-reply : goal.returns-in-None-clause-reply
returns-in-None-clause-reply c = λ rs number digest is. sym
    (found c.args.manifest.now 1 number digest rs None (rw c.in-None.is at is))
