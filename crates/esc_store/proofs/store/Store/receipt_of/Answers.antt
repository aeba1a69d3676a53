use Rattle.esc_store.proofs.Common.{◌∙◌, ap, receipt_of, reply_alike, if_goes, Represents}
use Rattle.esc_store.proofs.Sure.{told_of}
use Rattle.esc_store.proofs.store.Store.receipt_of.Goals as goal

pub returns-clause-found : goal.returns-clause-found
unfolding Represents
returns-clause-found g c =
    λ honest k stands. if_goes c.reply_found.result _ _ c.reply_found.ensures.reply (λ reply is.
    let told = rw c.text.ensures.text at (told_of c.in_ok-found.ensures.read honest k stands) in
    is k.receipts c.args.number.now c.args.digest.now
    (told.says ∙ ap (receipt_of c.args.number.now c.args.digest.now) told.books.receipts)
    ∙ ap (λ m. reply_alike m 1 c.args.number.now c.args.digest.now k.receipts)
    (c.receipt_here.ensures.read.manifest ∙ stands.listed))
