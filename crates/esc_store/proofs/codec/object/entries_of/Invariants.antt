use Rattle.esc_store.proofs.Common.{◌≡◌, map, take, stored_entry, entry_row, record_row}
use Rattle.esc_store.proofs.codec.object.entries_of.Given as goal

abbrev pub invariant-loop-at : goal.invariant-loop-at
invariant-loop-at l = map entry_row l.entries.items ≡ map (λ it. record_row (stored_entry it)) (take l.at l.stored)
