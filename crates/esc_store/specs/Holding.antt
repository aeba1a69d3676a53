-- Which rows are held, by receipts and by look-ups of bodies.
use Rattle.std.specs.Prelude.{◌≡◌, ◌↔◌, ◌⊎◌, ℕ, List, Some, IsSome}
use Rattle.std.specs.List.{Any, Contains}
use Rattle.esc_manifest.specs.declared.row.MRow.{MRow}
use Rattle.esc_manifest.specs.Listed.{row_with_digest}
use Rattle.esc_store.specs.ReplyValue.{ReceiptValue}
use Rattle.esc_store.specs.StoreState.{StoreState, IsRising, SaysHeld, TellsUnlisted}

-- a receipt accounts for the body that is held for a row: it says that the row's deposit is held
-- (A1), or that no row listed its digest then (A2 or A5), and that digest is the row's by these
-- rows
abbrev pub TellsOf : List MRow → ℕ → ReceiptValue → Type 0
TellsOf m row r = SaysHeld row r
    ⊎ (TellsUnlisted r.digest r × (row_with_digest m r.digest ≡ Some row))

-- each row that a receipt says is held has a body, and a receipt accounts for each row that has one
pub record HasReceipts (k : StoreState) : Type 0 where
  pub told : (row : ℕ) → Any (SaysHeld row) k.receipts → IsSome (k.bodies row)
  pub held_told : (row : ℕ) → IsSome (k.bodies row) → Any (TellsOf k.listed row) k.receipts

-- `more` are, in ascending order, these rows and one more, unless it is one of them
pub record IsInserted (rows : List ℕ) (row : ℕ) (more : List ℕ) : Type 0 where
  pub rising : IsRising more
  pub each : (r : ℕ) → Contains more r ↔ ((r ≡ row) ⊎ Contains rows r)

-- one of these digests is the one that row r lists
pub record IsOfDigests (k : StoreState) (digests : List (List ℕ)) (r : ℕ) : Type 0 where
  pub digest : List ℕ
  pub among : Contains digests digest
  pub lists : row_with_digest k.listed digest ≡ Some r

-- in ascending order, the rows that receipts say are held (`told`), and those that list one of
-- these digests and have a body
pub record AreFound (k : StoreState) (told : List ℕ) (digests : List (List ℕ))
    (rows : List ℕ) : Type 0 where
  pub rising : IsRising rows
  pub each : (r : ℕ) → Contains rows r ↔ (Contains told r
      ⊎ (IsOfDigests k digests r × IsSome (k.bodies r)))
