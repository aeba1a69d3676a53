use Rattle.std.proofs.Common.{◌≡◌, take, filter_map}
use Rattle.esc_sql.specs.Entries.{receipt_row}
use Rattle.esc_store.specs.Decoded.{digest_if_unlisted}
use Rattle.esc_store.proofs.reader.held.unlisted_digests.Given as goal

-- the digests of the receipts so far
abbrev pub invariant-loop-receipt : goal.invariant-loop-receipt
invariant-loop-receipt l = l.digests.items
    ≡ filter_map (λ r. digest_if_unlisted (receipt_row r)) (take l.receipt-index l.receipts)
