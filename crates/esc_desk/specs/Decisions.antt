-- What an event comes to, found by reads alone, and what is so once it was made.
use Rattle.std.specs.Prelude.{◌≡◌, ℕ, true, false, IsSome, IfSome, List, [], ◌∷◌, ◌++◌, Option}
use Rattle.std.specs.Prelude.{Some, None, Result, IfOk}
use Rattle.sha2.specs.Sha256.{sha256}
use Rattle.sqlite_trees.specs.declared.store.Store.{Ghosts}
use Rattle.esc_tables.specs.DepositValue.{DepositValue}
use Rattle.esc_tables.specs.Reading.{reading}
use Rattle.esc_manifest.specs.declared.row.MRow.{MRow}
use Rattle.esc_apply.specs.declared.moves.Work.{Work}
use Rattle.esc_store.specs.declared.fault.StoreFault.{StoreFault}
use Rattle.esc_store.specs.declared.store.Store.{Store}
use Rattle.esc_store.specs.StoreState.{StoreState, AreHeld, AreHeldBy, kept_chain, with_body}
use Rattle.esc_store.specs.StoreState.{with_parked}
use Rattle.esc_store.specs.ReplyValue.{ReceiptValue}
use Rattle.esc_store.specs.Representation.{StoreLeavesNoMore}
use Rattle.esc_events.specs.declared.assessment.Assessment.{Assessment}
use Rattle.esc_events.specs.declared.assessment.Assessment.TheVariants.{Unlisted, Holding}
use Rattle.esc_events.specs.declared.cache.Cache.{Cache}
use Rattle.esc_events.specs.declared.parking.Parking.TheVariants.{Free}
use Rattle.esc_events.specs.declared.plan.Plan.{Plan}
use Rattle.esc_events.specs.ArrivalValue.{ArrivalValue}
use Rattle.esc_events.specs.Assessment.{assessment, held_row}
use Rattle.esc_events.specs.Events.{EventValue, union}
use Rattle.esc_events.specs.Events.EventValue.{arrived}
use Rattle.esc_events.specs.Cache.{IsCacheOf}
use Rattle.esc_events.specs.Parks.{IsParking}
use Rattle.esc_events.specs.StateAfter.{AreBooks, IsStateAfter}
use Rattle.esc_events.specs.Works.{IsWorkOf, IsIdle, no_work}
use Rattle.esc_desk.specs.declared.decision.Decision.{Decision}
use Rattle.esc_desk.specs.declared.desk.Desk.{Desk}
use Rattle.esc_desk.specs.declared.edit.Storing.{Storing}
use Rattle.esc_desk.specs.Again.{is_missing}
use Rattle.esc_desk.specs.Calls.{IsHonestDesk}
use Rattle.esc_desk.specs.Crashes.{LeavesOnlyFor}
use Rattle.esc_desk.specs.Edits.{Begins, IsSoundPlan, HasItsDeposit, IsFromChainOf, IsCostOfEdit}
use Rattle.esc_desk.specs.Edits.{IsResult, edited, is_empty, receipted}
use Rattle.esc_desk.specs.Reflection.{DeskReflects}

-- what is known of a store's rows once a plan was carried out, if there is one
abbrev pub cache_after : Option Plan → Option Cache → Option Cache
cache_after None cache = cache
cache_after (Some plan) None = None
cache_after (Some plan) (Some cache) = Some (record cache { chain = plan.new })

-- a decision that a store with these rows can make
pub record IsSound (rows : List MRow) (d : Decision) : Type 0 where
  pub begins : Begins d.edit.listing rows
  pub plan : IfSome d.edit.plan IsSoundPlan
  pub read : HasItsDeposit d.edit.body

-- a decision is what the event x makes of a store that keeps k and stands for the events e
pub record IsDecided (e : List EventValue) (x : EventValue) (k : StoreState) (d : Decision)
    : Type 0 where
  pub moves : IsFromChainOf k d.edit.plan
  pub stands : IsStateAfter sha256 reading (e ++ x ∷ []) (edited d.edit k)
  pub knows : IfSome (cache_after d.edit.plan d.cache) (IsCacheOf (edited d.edit k))
  pub works : (work : Work) → IsCostOfEdit d.edit k work → IsWorkOf e x work

-- of whatever events a desk reflected before a call that decided something, this holds of what its
-- store keeps and of the decision
abbrev pub Decides : {S X : Type 0} → Ghosts S → Desk S → Desk S → Result X StoreFault
    → (List EventValue → StoreState → X → Type 0) → Type 0
Decides g old new result says = IsHonestDesk g new → (e : List EventValue)
    → (served : DeskReflects g old e) → IfOk result (says e served.serves.kept)

-- ---- an arrival

-- a decision by which the chain stays
abbrev pub still_by : Option ReceiptValue → Option Cache → Storing → Decision
still_by receipt cache body = record {
  edit = record { receipt = receipt; listing = None; body = body; moment = None; plan = None };
  cache = cache;
}

-- what an arrival makes of the books of a store that keeps k and stands for e, by what was found of
-- its body: with this receipt, or with none, if it came again. This is known of the rows, with the
-- one that the receipt tells
pub record IsArriving (e : List EventValue) (a : ArrivalValue) (k : StoreState) (found : Assessment)
    (cache : Cache) (receipt : Option ReceiptValue) : Type 0 where
  pub stood : IsStateAfter sha256 reading e k
  pub found_is : found ≡ assessment sha256 reading (union e) a.body
  pub held : AreHeld k.bodies cache.held_rows.items
  pub told : AreHeldBy (receipted receipt k).receipts cache.rows_with_receipt.items
  pub chain : cache.chain.items ≡ kept_chain k
  pub there : (found ≡ Unlisted → IsSome (k.parked (sha256 a.body)))
      → ((q : ℕ) → held_row found ≡ Some q → IsSome (k.bodies q))
      → AreBooks sha256 reading (e ++ arrived a ∷ []) (receipted receipt k)
  pub parked : found ≡ Unlisted → IsParking k.parked (sha256 a.body) Free
      → AreBooks sha256 reading (e ++ arrived a ∷ [])
      (with_parked (receipted receipt k) (sha256 a.body) (Some a.body))
  pub late : (row : ℕ) (d : DepositValue) → found ≡ Holding row d → k.bodies row ≡ None
      → AreBooks sha256 reading (e ++ arrived a ∷ []) (with_body (receipted receipt k) row a.body)

-- a decision is what an arrival makes of a store that keeps k; it is empty only where its body
-- isn't missing
pub record IsDecidedArrival (e : List EventValue) (a : ArrivalValue) (k : StoreState)
    (found : Assessment) (d : Decision) : Type 0 where
  pub decided : IsDecided e (arrived a) k d
  pub idle : (work : Work) → IsCostOfEdit d.edit k work → IsIdle e (arrived a) work
  pub there : is_empty d.edit ≡ true → is_missing k.bodies k.parked (sha256 a.body) found ≡ false

-- ---- a decision that was carried out

-- a decision was carried out for an event by a desk over a store that kept k: the desk reflects the
-- events with it, this is its work, and a crash leaves it taken in, or else nothing was done
pub record IsDone {S : Type 0} (g : Ghosts S) (old : Store S) (new : Desk S) (e : List EventValue)
    (x : EventValue) (k : StoreState) (d : Decision) (done : ℕ × Work) : Type 0 where
  pub serves : DeskReflects g new (e ++ x ∷ [])
  pub works : IsWorkOf e x done.1
  pub result : IsResult d.edit k done.0 done.1
  pub left : is_empty d.edit ≡ false → LeavesOnlyFor g new.store.conn (e ++ x ∷ [])
  pub rests : is_empty d.edit ≡ true → (done.1 ≡ no_work) × StoreLeavesNoMore g old new.store
