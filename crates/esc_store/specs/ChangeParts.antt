-- What the parts of a change do to the rows of a store.
use Rattle.std.specs.Prelude.{◌≡◌, ◌≤◌, ◌+◌, ℕ, true, List, [], ◌∷◌, ◌++◌}
use Rattle.sqlite.specs.Effect.{Database}
use Rattle.sqlite.specs.State.{State}
use Rattle.esc_sql.specs.Content.{Content, HoldsContent}
use Rattle.esc_sql.specs.Changes.{Becomes, last_number, steps_before}
use Rattle.esc_store.specs.declared.books.TheConstants.{MOST_RECEIPTS}
use Rattle.esc_store.specs.ReplyValue.{ReceiptValue}
use Rattle.esc_store.specs.TypedRows.{numbered_receipt, steps_from}

-- the number of the next receipt, from 1
abbrev pub next_number : Content → ℕ
next_number c = last_number c.receipts + 1

-- a content with one more receipt, after the others, under the next number
abbrev pub with_next_receipt : ReceiptValue → Content → Content
with_next_receipt r c =
    record c { receipts = c.receipts ++ numbered_receipt (next_number c) r ∷ [] }

-- a store has one more receipt, after the others, under the next number
abbrev pub AddsNext : ReceiptValue → Database → Database → Type 0
AddsNext r = Becomes (with_next_receipt r)

-- a transaction is on, and the store has 1,000,000,000 receipts or more
abbrev pub HasMostReceipts : State → Type 0
HasMostReceipts s = (s.in_transaction ≡ true)
    × ((c : Content) → HoldsContent s.now c → MOST_RECEIPTS ≤ last_number c.receipts)

-- a content with these rows as the steps of the chain from this number on; those before it stay
abbrev pub with_steps_from : ℕ → List ℕ → Content → Content
with_steps_from at rows c = record c { steps = (steps_before at c).steps ++ steps_from at rows }

-- a store has these rows as the steps of the chain from this number on; those before it stay
abbrev pub ContinuesSteps : ℕ → List ℕ → Database → Database → Type 0
ContinuesSteps at rows = Becomes (with_steps_from at rows)
