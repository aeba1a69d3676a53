-- What a crash leaves of a store, by the events that it stands for.
--
-- An event that was refused by S1 or S2 is as one that never came, as long as there is no crash: a
-- crash may leave it taken in. Until the next one that changes a table it is in doubt.
use Rattle.std.specs.Prelude.{◌⊎◌, ◌==◌, ◌&&◌, ℕ, ℤ, Bool, true, false, List, [], ◌∷◌}
use Rattle.std.specs.Prelude.{◌++◌, Option}
use Rattle.std.specs.Prelude.{Some, None, Result, Ok, Err, MatchResult, if◌then◌else◌}
use Rattle.sha2.specs.Sha256.{sha256}
use Rattle.sqlite_trees.specs.declared.store.Store.{Ghosts}
use Rattle.sqlite_trees.specs.Tree.{Trees}
use Rattle.sqlite.specs.Held.{Held, state}
use Rattle.sqlite.specs.State.{HasCleanDisk}
use Rattle.esc_tables.specs.Reading.{reading}
use Rattle.esc_store.specs.declared.fault.StoreFault.{StoreFault}
use Rattle.esc_store.specs.declared.fault.StoreFault.TheVariants.{Failed, NoMemory, NotAStore, NoRoom, NoPlace}
use Rattle.esc_store.specs.StoreState.{StoreState}
use Rattle.esc_store.specs.StoreTables.{IsStore}
use Rattle.esc_desk.specs.declared.amendment.AmendFault.{AmendFault}
use Rattle.esc_desk.specs.declared.amendment.AmendFault.TheVariants.{M, Store as OfStore}
use Rattle.esc_desk.specs.declared.event.Event.{Event}
use Rattle.esc_desk.specs.declared.event.EventOutcome.{EventOutcome}
use Rattle.esc_desk.specs.declared.event.Outcome.TheVariants.{Done, Lost}
use Rattle.esc_events.specs.ArrivalValue.{ArrivalValue}
use Rattle.esc_events.specs.Events.{EventValue}
use Rattle.esc_events.specs.Events.EventValue.{arrived, moved}
use Rattle.esc_events.specs.Receipts.{reply_to}
use Rattle.esc_events.specs.StateAfter.{IsApart, IsStateAfter}
use Rattle.esc_desk.specs.Again.{changes_table, is_missing_after}
use Rattle.esc_desk.specs.Asked.{Matched, amendment_of, matched, taken_by}
use Rattle.esc_desk.specs.Asked.Matched.{of_arrival, of_amendment, of_moment}

-- the trees of a database are a store that stands for this list of events
pub record IsStoreFor (trees : Trees) (e : List EventValue) : Type 0 where
  pub kept : StoreState
  pub store : IsStore trees kept
  pub stands_for : IsStateAfter sha256 reading e kept

-- the trees of a database are a store of these events, or of them and one of those in doubt
abbrev pub IsStoreForOneOf : Trees → List EventValue → List EventValue → Type 0
IsStoreForOneOf trees e [] = IsStoreFor trees e
IsStoreForOneOf trees e (x ∷ doubtful) = IsStoreFor trees (e ++ x ∷ [])
    ⊎ IsStoreForOneOf trees e doubtful

-- whatever a crash now leaves of a connection's database is a store of these events, or of them and
-- one of those in doubt
unfoldable pub CrashLeaves : {S : Type 0} → Ghosts S → Held S → List EventValue → List EventValue
    → Type 0
CrashLeaves g conn e doubtful =
    HasCleanDisk (state g conn) → (trees : Trees) → (state g conn).may_leave trees
    → IsStoreForOneOf trees e doubtful

-- ---- after an event

-- digests are apart, if that is to be known
abbrev pub IsApartIf : Bool → List EventValue → Type 0
IsApartIf false e = Unit {0}
IsApartIf true e = IsApart sha256 reading e

-- the events in doubt after an arrival was answered: none where a table has changed, else those
-- that were in doubt. That a body was missing is known only if digests are apart
abbrev pub still_doubtful : Bool → List EventValue → List EventValue → ArrivalValue
    → List EventValue
still_doubtful apart e doubtful a =
    let changed = changes_table (reply_to sha256 reading e a) (apart && is_missing_after e a) in
    if changed then [] else doubtful

-- the events in doubt after one was refused: it is one of them, unless there was no room (S4, S5)
abbrev pub doubtful_with : StoreFault → EventValue → List EventValue → List EventValue
doubtful_with (Failed cause) x doubtful = x ∷ doubtful
doubtful_with NoMemory x doubtful = x ∷ doubtful
doubtful_with NotAStore x doubtful = x ∷ doubtful
doubtful_with NoRoom x doubtful = doubtful
doubtful_with NoPlace x doubtful = doubtful

-- what a crash leaves after an arrival that was answered: the events with it, or with it and one
-- that is still in doubt
abbrev pub LeavesAnswered : {S : Type 0} → Ghosts S → Held S → List EventValue → List EventValue
    → ArrivalValue → Type 0
LeavesAnswered g conn e doubtful a = (apart : Bool) → IsApartIf apart e
    → CrashLeaves g conn (e ++ arrived a ∷ []) (still_doubtful apart e doubtful a)

-- what a crash leaves after an event that was refused: the events as they were, or with one in
-- doubt
abbrev pub LeavesRefused : {S : Type 0} → Ghosts S → Held S → List EventValue → List EventValue
    → EventValue → StoreFault → Type 0
LeavesRefused g conn e doubtful x f = CrashLeaves g conn e (doubtful_with f x doubtful)

-- what a crash leaves after an arrival, by its answer
abbrev pub LeavesTaken : {S X : Type 0} → Ghosts S → Held S → List EventValue → List EventValue
    → ArrivalValue → Result X StoreFault → Type 0
LeavesTaken g conn e doubtful a result =
    MatchResult result (λ _. LeavesAnswered g conn e doubtful a)
    (λ f. LeavesRefused g conn e doubtful (arrived a) f)

-- what a crash leaves after an event that changes a table, by its answer
abbrev pub LeavesMade : {S X : Type 0} → Ghosts S → Held S → List EventValue → List EventValue
    → EventValue → Result X StoreFault → Type 0
LeavesMade g conn e doubtful x result =
    MatchResult result (λ _. CrashLeaves g conn (e ++ x ∷ []) [])
    (λ f. LeavesRefused g conn e doubtful x f)

-- the events in doubt after an amendment, by what came of it: none where a row was added
abbrev pub doubtful_amended : List EventValue → List ℕ → Result ℕ AmendFault → List EventValue
doubtful_amended doubtful text (Ok count) = if count == 0 then doubtful else []
doubtful_amended doubtful text (Err (M fault)) = doubtful
doubtful_amended doubtful text (Err (OfStore fault)) =
    doubtful_with fault (amendment_of text) doubtful

-- the events in doubt after a moment, by what came of it
abbrev pub doubtful_moved : List EventValue → Option ℤ → Result (Unit {0}) StoreFault
    → List EventValue
doubtful_moved doubtful moment (Ok set) = []
doubtful_moved doubtful moment (Err fault) = doubtful_with fault (moved moment) doubtful

-- the events in doubt after an event that came after the events e, by what came of it; `apart` says
-- whether digests are known to be apart
abbrev pub doubtful_by : Bool → List EventValue → List EventValue → Option Matched
    → List EventValue
doubtful_by apart e doubtful None = doubtful
doubtful_by apart e doubtful (Some (of_arrival a (Done r))) = still_doubtful apart e doubtful a
doubtful_by apart e doubtful (Some (of_arrival a (Lost f))) = doubtful_with f (arrived a) doubtful
doubtful_by apart e doubtful (Some (of_amendment text r)) = doubtful_amended doubtful text r
doubtful_by apart e doubtful (Some (of_moment moment r)) = doubtful_moved doubtful moment r

-- the events in doubt after a run, by what came of each event
abbrev pub doubtful_after : Bool → List EventValue → List EventValue → List Event
    → List EventOutcome → List EventValue
doubtful_after apart e doubtful [] os = doubtful
doubtful_after apart e doubtful (x ∷ xs) [] = doubtful
doubtful_after apart e doubtful (x ∷ xs) (o ∷ os) =
    let doubts = doubtful_by apart e doubtful (matched x o) in
    doubtful_after apart (e ++ taken_by x o) doubts xs os

-- ---- from one call to the next

-- whatever a crash now leaves of a connection's database is a store of these events
unfoldable pub LeavesOnlyFor : {S : Type 0} → Ghosts S → Held S → List EventValue → Type 0
LeavesOnlyFor g conn e =
    HasCleanDisk (state g conn) → (trees : Trees) → (state g conn).may_leave trees
    → IsStoreFor trees e
