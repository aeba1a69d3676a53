-- The words of a desk's contracts: what a call says of whatever events the desk reflected before
-- it.
use Rattle.std.specs.Prelude.{◌≡◌, ◌≢◌, ℕ, Bool, ◌+◌, ◌<◌, ◌≤◌, ◌++◌, List, []}
use Rattle.std.specs.Prelude.{◌∷◌, length, Some}
use Rattle.std.specs.Prelude.{None, Result, IfOk, OnErr}
use Rattle.sha2.specs.Sha256.{sha256}
use Rattle.sqlite_trees.specs.declared.store.Store.{Ghosts}
use Rattle.esc_tables.specs.Reading.{reading}
use Rattle.esc_apply.specs.Registry.{saturated}
use Rattle.esc_apply.specs.declared.moves.Work.{Work}
use Rattle.esc_store.specs.declared.books.TheConstants.{MOST_RECEIPTS}
use Rattle.esc_store.specs.declared.fault.StoreFault.{StoreFault}
use Rattle.esc_store.specs.declared.fault.StoreFault.TheVariants.{Failed, NoMemory, NotAStore, NoRoom, NoPlace}
use Rattle.esc_store.specs.declared.reply.Verdict.TheVariants.{A2}
use Rattle.esc_store.specs.declared.store.Store.{Store}
use Rattle.esc_store.specs.ReplyValue.{ReplyValue}
use Rattle.esc_store.specs.Representation.{IsHonest, IsAsBefore}
use Rattle.esc_desk.specs.declared.desk.Desk.{Desk}
use Rattle.esc_desk.specs.declared.event.Event.{Event}
use Rattle.esc_desk.specs.declared.event.EventOutcome.{EventOutcome}
use Rattle.esc_events.specs.ArrivalValue.{ArrivalValue}
use Rattle.esc_desk.specs.Crashes.{CrashLeaves, LeavesTaken, LeavesMade, IsApartIf, doubtful_by}
use Rattle.esc_desk.specs.Crashes.{doubtful_after}
use Rattle.esc_events.specs.Events.{EventValue, union}
use Rattle.esc_events.specs.Events.EventValue.{arrived}
use Rattle.esc_events.specs.Receipts.{receipts_of, reply_to}
use Rattle.esc_desk.specs.Again.{IsUnkept}
use Rattle.esc_desk.specs.Asked.{matched, taken_by, taken_in}
use Rattle.esc_desk.specs.Causes.{IsCrowded}
use Rattle.esc_desk.specs.Reflection.{StoreReflects, DeskReflects}
use Rattle.esc_events.specs.Apart.{WhereApart}
use Rattle.esc_events.specs.StateAfter.{parked_body}
use Rattle.esc_events.specs.Works.{IsWorkOf, IsIdle, no_work}

-- ---- a desk

abbrev pub store_of : {S : Type 0} → Desk S → Store S
store_of desk = desk.store

-- the disk gave back what was written to it
abbrev pub IsHonestDesk : {S : Type 0} → Ghosts S → Desk S → Type 0
IsHonestDesk g desk = IsHonest g desk.store

-- how many objects were put or removed since the desk's store was opened; a removal counts even if
-- there was no object
abbrev pub writes_of : {S : Type 0} → Desk S → ℕ
writes_of desk = desk.store.writes

-- whatever a crash now leaves is a store of these events, or of them and one of those in doubt
abbrev pub DeskLeaves : {S : Type 0} → Ghosts S → Desk S → List EventValue → List EventValue
    → Type 0
DeskLeaves g desk e doubtful = CrashLeaves g desk.store.conn e doubtful

-- ---- a call, by the desk before it and after it

module _ {S : Type 0} (g : Ghosts S) (old new : Desk S) where
  -- if the store is honest after the call, this holds for every list of events that the desk
  -- reflected before it
  abbrev pub ForDeskEvents : (List EventValue → Type 0) → Type 0
  ForDeskEvents says = IsHonestDesk g new → (e : List EventValue) → DeskReflects g old e → says e

  -- the same of such a list and the result, where the call succeeded
  abbrev pub OkForDeskEvents : {X E : Type 0} → Result X E → (List EventValue → X → Type 0) → Type 0
  OkForDeskEvents result says = ForDeskEvents (λ e. IfOk result (says e))

  -- if the store is honest after the call, this holds for every list of events that the store stood
  -- for before it, whatever the desk remembers
  abbrev pub ForStoreEvents : (List EventValue → Type 0) → Type 0
  ForStoreEvents says = IsHonestDesk g new → (e : List EventValue) → StoreReflects g old.store e
      → says e

  -- a store that is honest after the call was so before
  abbrev pub WasHonest : Type 0
  WasHonest = IsHonestDesk g new → IsHonestDesk g old

  -- the desk reflects what it reflected
  abbrev pub StillReflects : Type 0
  StillReflects = (e : List EventValue) → DeskReflects g old e → DeskReflects g new e

  -- the call changed nothing: the manifest, the writes, what the store is and what a crash leaves
  -- of it are as before, it was honest before if it is now, and the desk reflects what it reflected
  pub record IsUnchangedDesk : Type 0 where
    pub same : IsAsBefore g old.store new.store
    pub serves : StillReflects

  -- a call was whole or not at all: where it succeeded the desk counted the writes of its work;
  -- where it failed it counted none, and reflects what it reflected. A store that is honest after
  -- it was so before
  pub record IsWhole {X E : Type 0} (result : Result X E) (work : X → Work) : Type 0 where
    pub honest : WasHonest
    pub counted : IfOk result (λ x. writes_of new ≡ saturated (writes_of old + (work x).writes))
    pub uncounted : OnErr result (writes_of new ≡ writes_of old)
    pub lost : OnErr result StillReflects

-- this holds for every list of events that the desk reflected before the call, and those in doubt
-- then
abbrev pub ForEventsInDoubt : {S : Type 0} → Ghosts S → Desk S
    → (List EventValue → List EventValue → Type 0) → Type 0
ForEventsInDoubt g old says = (e doubtful : List EventValue) → DeskReflects g old e
    → DeskLeaves g old e doubtful → says e doubtful

-- ---- an arrival

-- of a duplicate of an earlier arrival: this is that one's reply, and unless that says A2, nothing
-- was done
abbrev pub RepeatsReply : List EventValue → ArrivalValue → ReplyValue → Work → Type 0
RepeatsReply e a reply work = (r : ReplyValue) → reply_to sha256 reading e a ≡ Some r
    → (reply ≡ r) × (r.verdict ≢ A2 → work ≡ no_work)

-- there is no room for the receipt of an arrival: it is no duplicate, and there are 1,000,000,000
-- receipts
abbrev pub HasNoRoom : List EventValue → ArrivalValue → Type 0
HasNoRoom e a = (reply_to sha256 reading e a ≡ None)
    × (MOST_RECEIPTS ≤ length (receipts_of sha256 reading e))

-- there is no place for the body of an arrival, which is no duplicate of an earlier one, or that
-- one's verdict was A2: it would be parked, and 1,024 others are
pub record HasNoPlace (e : List EventValue) (a : ArrivalValue) : Type 0 where
  pub unkept : IsUnkept e a
  pub crowded : IsCrowded (union e) (parked_body sha256 reading e) (sha256 a.body)

-- if an arrival is no duplicate, there was room for its receipt
abbrev pub HadRoom : List EventValue → ArrivalValue → Type 0
HadRoom e a = reply_to sha256 reading e a ≡ None
    → length (receipts_of sha256 reading e) < MOST_RECEIPTS

-- why an arrival may be lost: the database failed (S1), memory was refused (S2), there is no room
-- for its receipt (S4), or there is room for its receipt, but no place to park its body (S5; said
-- if no two different bodies have the same digest)
abbrev pub IsCause : List EventValue → ArrivalValue → StoreFault → Type 0
IsCause e a (Failed cause) = Unit {0}
IsCause e a NoMemory = Unit {0}
IsCause e a NotAStore = ⊥
IsCause e a NoRoom = HasNoRoom e a
IsCause e a NoPlace = HadRoom e a × WhereApart e (HasNoPlace e a)

-- there was a place to park its body, if it was to be parked; said if no two different bodies have
-- the same digest
abbrev pub HadPlace : List EventValue → ArrivalValue → Type 0
HadPlace e a = WhereApart e (HasNoPlace e a → ⊥)

-- an arrival was answered with this reply and this work: the desk reflects the events with it;
-- there was room for its receipt, and a place to park its body, if it was to be parked
pub record Answers {S : Type 0} (g : Ghosts S) (desk : Desk S) (e : List EventValue)
    (a : ArrivalValue) (reply : ReplyValue) (work : Work) : Type 0 where
  pub serves : DeskReflects g desk (e ++ arrived a ∷ [])
  pub told : reply_to sha256 reading (e ++ arrived a ∷ []) a ≡ Some reply
  pub repeats : RepeatsReply e a reply work
  pub works : IsWorkOf e (arrived a) work
  pub idle : IsIdle e (arrived a) work
  pub room : HadRoom e a
  pub place : HadPlace e a

-- what a crash leaves after an event that changes a table, by its answer
abbrev pub DeskLeavesMade : {S X : Type 0} → Ghosts S → Desk S → List EventValue → List EventValue
    → EventValue → Result X StoreFault → Type 0
DeskLeavesMade g desk e doubtful x result = LeavesMade g desk.store.conn e doubtful x result

-- what a crash leaves after an arrival, by its answer
abbrev pub DeskLeavesTaken : {S X : Type 0} → Ghosts S → Desk S → List EventValue → List EventValue
    → ArrivalValue → Result X StoreFault → Type 0
DeskLeavesTaken g desk e doubtful a result = LeavesTaken g desk.store.conn e doubtful a result

-- what a crash leaves after an event of a run, by its outcome
abbrev pub DeskLeavesEvent : {S : Type 0} → Ghosts S → Desk S → List EventValue → List EventValue
    → Event → EventOutcome → Type 0
DeskLeavesEvent g desk e doubtful x o = (apart : Bool) → IsApartIf apart e
    → DeskLeaves g desk (e ++ taken_by x o) (doubtful_by apart e doubtful (matched x o))

-- what a crash leaves after a run: the events before it and those that were taken in, and one of
-- those in doubt then. These are fewer if digests are known to be apart: an arrival that was
-- answered A2, and whose body was missing, leaves none in doubt
abbrev pub DeskLeavesRun : {S : Type 0} → Ghosts S → Desk S → List EventValue → List EventValue
    → List Event → List EventOutcome → Type 0
DeskLeavesRun g desk e doubtful events outcomes = (apart : Bool)
    → IsApartIf apart (e ++ taken_in events outcomes)
    → DeskLeaves g desk (e ++ taken_in events outcomes)
    (doubtful_after apart e doubtful events outcomes)
