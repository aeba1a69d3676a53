-- What a run over a list of events returns.
use Rattle.std.specs.Prelude.{◌≡◌, List, [], ◌∷◌, ◌++◌, Option, Some, None, Ok, Err}
use Rattle.sha2.specs.Sha256.{sha256}
use Rattle.sqlite_trees.specs.declared.store.Store.{Ghosts}
use Rattle.esc_tables.specs.Reading.{reading}
use Rattle.esc_desk.specs.declared.desk.Desk.{Desk}
use Rattle.esc_desk.specs.declared.event.Event.{Event}
use Rattle.esc_desk.specs.declared.event.EventOutcome.{EventOutcome}
use Rattle.esc_desk.specs.declared.event.Outcome.{Outcome}
use Rattle.esc_desk.specs.declared.event.Outcome.TheVariants.{Done, Lost}
use Rattle.esc_events.specs.ArrivalValue.{ArrivalValue}
use Rattle.esc_events.specs.Events.{EventValue, union}
use Rattle.esc_events.specs.Receipts.{reply_to}
use Rattle.esc_desk.specs.Amendments.{AddsRows, IsAmendCause}
use Rattle.esc_desk.specs.Asked.{Matched, matched, taken_by, taken_in}
use Rattle.esc_desk.specs.Asked.Matched.{of_arrival, of_amendment, of_moment}
use Rattle.esc_desk.specs.Calls.{IsCause, HadRoom, HadPlace, writes_of}
use Rattle.esc_desk.specs.Outcomes.{HasWorked}
use Rattle.esc_desk.specs.Reflection.{DeskReflects}

-- an arrival after the events e got its reply by `all`, the events in the end, and there was room
-- for its receipt and a place for its body; or it was lost, by a cause that held after e
abbrev pub IsReply : List EventValue → List EventValue → ArrivalValue → Outcome → Type 0
IsReply e all a (Done r) = (reply_to sha256 reading all a ≡ Some r) × HadRoom e a × HadPlace e a
IsReply e all a (Lost f) = IsCause e a f

-- the outcome of an event after the events e is right, where `all` are the events in the end: an
-- arrival's reply, or why it was lost; an amendment's count of rows, or why it was refused; of a
-- moment's outcome nothing is said
abbrev pub IsRight : List EventValue → List EventValue → Option Matched → Type 0
IsRight e all None = ⊥
IsRight e all (Some (of_arrival a o)) = IsReply e all a o
IsRight e all (Some (of_amendment text (Ok count))) = AddsRows e text count
IsRight e all (Some (of_amendment text (Err f))) = IsAmendCause (union e) text f
IsRight e all (Some (of_moment moment r)) = Unit {0}

-- there is one outcome for each event, and it is right after those that were taken in before it
abbrev pub AreRight : List EventValue → List EventValue → List Event → List EventOutcome → Type 0
AreRight e all [] [] = Unit {0}
AreRight e all [] (o ∷ os) = ⊥
AreRight e all (x ∷ xs) [] = ⊥
AreRight e all (x ∷ xs) (o ∷ os) = IsRight e all (matched x o)
    × AreRight (e ++ taken_by x o) all xs os

-- after a run the desk reflects the events before it and those that were taken in, each outcome is
-- right, and the writes of their works were counted
pub record Ran {S : Type 0} (g : Ghosts S) (old new : Desk S) (before : List EventValue)
    (events : List Event) (outcomes : List EventOutcome) : Type 0 where
  pub serves : DeskReflects g new (before ++ taken_in events outcomes)
  pub answers : AreRight before (before ++ taken_in events outcomes) events outcomes
  pub worked : HasWorked before (taken_in events outcomes) (writes_of old) (writes_of new)

-- the same of one event
pub record Takes {S : Type 0} (g : Ghosts S) (old new : Desk S) (e : List EventValue) (x : Event)
    (o : EventOutcome) : Type 0 where
  pub serves : DeskReflects g new (e ++ taken_by x o)
  pub answer : IsRight e (e ++ taken_by x o) (matched x o)
  pub worked : HasWorked e (taken_by x o) (writes_of old) (writes_of new)
