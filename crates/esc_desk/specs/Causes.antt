-- Why an edit of the store is refused, and why an arrival isn't decided.
use Rattle.std.specs.Prelude.{◌≡◌, ◌⊎◌, ◌<◌, ◌≤◌, ℕ, List, Option, Some, None, IfSome, length}
use Rattle.sqlite_trees.specs.declared.store.Store.{Ghosts}
use Rattle.esc_manifest.specs.declared.row.MRow.{MRow}
use Rattle.esc_store.specs.declared.books.TheConstants.{MOST_RECEIPTS}
use Rattle.esc_store.specs.declared.fault.StoreFault.{StoreFault}
use Rattle.esc_store.specs.declared.fault.StoreFault.TheVariants.{NoRoom, NoPlace}
use Rattle.esc_store.specs.declared.store.Store.{Store}
use Rattle.esc_store.specs.Faults.{IsFailure}
use Rattle.esc_store.specs.StoreState.{StoreState}
use Rattle.esc_store.specs.ReplyValue.{ReceiptValue}
use Rattle.esc_store.specs.Representation.{ChangeOf, IsHonest, Represents, StoreLeavesNoMore}
use Rattle.esc_store.specs.Representation.{HasMadeBooks}
use Rattle.esc_events.specs.declared.assessment.Assessment.{Assessment}
use Rattle.esc_events.specs.declared.assessment.Assessment.TheVariants.{Unlisted}
use Rattle.esc_events.specs.declared.parking.Parking.TheVariants.{Crowded}
use Rattle.esc_events.specs.Assessment.{row_with_digest}
use Rattle.esc_events.specs.Parks.{IsParking}

-- a body with this digest would be parked, since none of these rows lists it and it isn't parked,
-- but 1,024 others are
abbrev pub IsCrowded : List MRow → (List ℕ → Option (List ℕ)) → List ℕ → Type 0
IsCrowded rows parked digest = (row_with_digest rows digest ≡ None)
    × IsParking parked digest Crowded

-- there is room for one more receipt, if one is to be kept
abbrev pub HasRoomFor : StoreState → Option ReceiptValue → Type 0
HasRoomFor k receipt = IfSome receipt (λ r. length k.receipts < MOST_RECEIPTS)

module _ {S : Type 0} (g : Ghosts S) where
  -- the store had 1,000,000,000 receipts, and nothing was done: a crash leaves nothing more
  pub record IsWithoutRoom (old new : Store S) : Type 0 where
    pub full : IsHonest g new → (k : StoreState) → Represents g old k
        → MOST_RECEIPTS ≤ length k.receipts
    pub leaves : StoreLeavesNoMore g old new

  -- S1 or S2; or S4, where the store had no room for a receipt
  abbrev pub IsStoreFault : Store S → Store S → StoreFault → Type 0
  IsStoreFault old new fault = IsFailure fault ⊎ ((fault ≡ NoRoom) × IsWithoutRoom old new)

  -- the same of a change, of which nothing is committed
  abbrev pub IsChangeFault : ChangeOf S → ChangeOf S → StoreFault → Type 0
  IsChangeFault old new fault = IsFailure fault
      ⊎ ((fault ≡ NoRoom) × (IsHonest g new.store.now → (before k : StoreState)
      → HasMadeBooks g old before k
      → MOST_RECEIPTS ≤ length k.receipts))

  -- why an edit is refused: S4 may be only where it has a receipt
  abbrev pub IsEditFault : Option ReceiptValue → Store S → Store S → StoreFault → Type 0
  IsEditFault None old new fault = IsFailure fault
  IsEditFault (Some r) old new fault = IsStoreFault old new fault

  -- the same of a change
  abbrev pub IsFillFault : Option ReceiptValue → ChangeOf S → ChangeOf S → StoreFault → Type 0
  IsFillFault None old new fault = IsFailure fault
  IsFillFault (Some r) old new fault = IsChangeFault old new fault

  -- why an arrival isn't decided, of which this was found: S5, where no row lists its body and
  -- there is no place to park it, but room for its receipt, if it has one; else as an edit is
  -- refused
  abbrev pub IsPlaceFault : Option ReceiptValue → Store S → Store S → Assessment → List ℕ → StoreFault
      → Type 0
  IsPlaceFault receipt old new found digest fault = ((fault ≡ NoPlace) × (found ≡ Unlisted)
      × (IsHonest g new → (k : StoreState) → Represents g old k
      → IsParking k.parked digest Crowded × HasRoomFor k receipt))
      ⊎ IsEditFault receipt old new fault
