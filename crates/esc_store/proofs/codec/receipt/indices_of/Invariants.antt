use Rattle.esc_store.proofs.Common.{◌≡◌, take}
use Rattle.esc_store.proofs.codec.receipt.indices_of.Given as goal

abbrev pub invariant-loop-number : goal.invariant-loop-number
invariant-loop-number l = l.rows.items ≡ take l.number-index l.numbers
