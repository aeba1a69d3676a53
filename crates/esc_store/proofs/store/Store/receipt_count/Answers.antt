use Rattle.esc_store.proofs.Common.{last_number, ◌∙◌, ap}
use Rattle.esc_store.proofs.Reading.{counted}
use Rattle.esc_store.proofs.Sure.{told_of}
use Rattle.esc_store.proofs.store.Store.receipt_count.Goals as goal

pub returns-clause-count : goal.returns-clause-count
returns-clause-count g c = λ honest k stands.
    let told = told_of c.in_ok-last.ensures.read honest k stands in
    c.from.ensures ∙ (told.says ∙ (ap last_number told.books.receipts ∙ counted k.receipts))
