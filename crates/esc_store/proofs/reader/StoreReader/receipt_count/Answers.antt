use Rattle.esc_store.proofs.Common.{refl, ap, length, ◌∙◌}
use Rattle.esc_scan.specs.Numbers.{number_read, number_of_receipt}
use Rattle.esc_store.proofs.Readers.{told_of, read_only}
use Rattle.esc_store.proofs.ReaderRows.{counted}
use Rattle.esc_store.proofs.reader.StoreReader.receipt_count.Goals as goal

pub returns-clause-count : goal.returns-clause-count
returns-clause-count g c = λ honest k stands.
    let told = told_of c.args.self.now c.in_ok-numbers.ensures.read honest k stands in
    ap length c.as_slice.ensures.value ∙ counted number_read number_of_receipt
    c.in_ok-numbers.numbers.items told.content.receipts k.receipts told.says told.books.receipts

pub returns-clause-same : goal.returns-clause-same
returns-clause-same g c = read_only refl c.in_ok-numbers.ensures.read
