use Rattle.esc_sql.specs.StoreTable.{Receipts}
use Rattle.esc_scan.specs.Numbers.{number_read, number_of_receipt}
use Rattle.esc_scan.proofs.Tables.{scanned}
use Rattle.esc_scan.proofs.receipt.receipt_numbers.Goals as goal

pub returns : goal.returns
returns g c = record {
  read = scanned g.S.Store
      Receipts number_read c.read_all.result (λ all. all.items) c.args.store.now c.read_all.new.store
      number_of_receipt c.read_all.ensures.reads c.read_all.ensures.only c.read_all.ensures.quiet;
}
