-- What is told of a receipt by its number alone.
use Rattle.std.specs.Prelude.{ℕ}
use Rattle.esc_sql.specs.Rows.{ReceiptRow}
use Rattle.esc_scan.specs.declared.receipt.ReceiptNumber.{ReceiptNumber}

abbrev pub number_read : ReceiptNumber → ℕ
number_read it = it.receipt

abbrev pub number_of_receipt : ReceiptRow → ℕ
number_of_receipt r = r.receipt
