use Rattle.esc_store.proofs.Common.{◌≡◌, List, map, take, receipt_row, ReceiptValue, replies_from, receipts_from}
use Rattle.esc_store.proofs.codec.receipt.replies_of.Given as goal

abbrev pub invariant-loop-at : goal.invariant-loop-at
invariant-loop-at l = (rs : List ReceiptValue) → map receipt_row l.stored ≡ receipts_from 1 rs
    → l.replies.items ≡ replies_from l.manifest 1 (take l.at rs)
