use Rattle.esc_store.proofs.Common.{map, receipt_row, ◌∙◌, ap, if_goes, replies_from, Represents}
use Rattle.esc_store.proofs.Sure.{told_of}
use Rattle.esc_store.proofs.store.Store.receipts.Goals as goal

pub returns-clause-all : goal.returns-clause-all
unfolding Represents
returns-clause-all g c =
    λ honest k stands. if_goes c.replies_of.result _ _ c.replies_of.ensures.replies (λ replies is.
    let told = told_of c.in_ok-stored.ensures.read honest k stands in
    is k.receipts (ap (map receipt_row) c.as_slice.ensures.value ∙ (told.says ∙ told.books.receipts))
    ∙ ap (λ m. replies_from m 1 k.receipts)
    (c.receipts_here.ensures.read.manifest ∙ stands.listed))
