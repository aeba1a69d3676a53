use Rattle.esc_store.proofs.Common.{map, receipt_row, refl, ◌∙◌, ap, if_goes, replies_from}
use Rattle.esc_store.proofs.Readers.{told_of, read_only, listed_is}
use Rattle.esc_store.proofs.reader.StoreReader.receipts.Goals as goal

pub returns-clause-all : goal.returns-clause-all
returns-clause-all g c =
    λ honest k stands. if_goes c.replies_of.result _ _ c.replies_of.ensures.replies (λ replies is.
    let told = told_of c.args.self.now c.in_ok-stored.ensures.read honest k stands in
    is k.receipts (ap (map receipt_row) c.as_slice.ensures.value ∙ (told.says ∙ told.books.receipts))
    ∙ ap (λ m. replies_from m 1 k.receipts)
    (listed_is g.S.Store c.args.self.now k stands))

pub returns-clause-same : goal.returns-clause-same
returns-clause-same g c = read_only refl c.in_ok-stored.ensures.read
