-- What a run is asked to take in, as events, and which of it was taken in.
use Rattle.std.specs.Prelude.{ℕ, ℤ, List, [], ◌∷◌, ◌++◌, Option, Some, None, Bool, true, false}
use Rattle.std.specs.Prelude.{Result, Ok, Err, map, if◌then◌else◌}
use Rattle.esc_manifest.specs.declared.refusal.ManifestRefusal.{ManifestRefusal}
use Rattle.esc_manifest.specs.declared.row.MRow.{MRow}
use Rattle.esc_manifest.specs.Manifest.{manifest_of}
use Rattle.esc_store.specs.declared.fault.StoreFault.{StoreFault}
use Rattle.esc_events.specs.ArrivalValue.{ArrivalValue}
use Rattle.esc_events.specs.Events.{EventValue}
use Rattle.esc_events.specs.Events.EventValue.{listed, arrived, moved}
use Rattle.esc_desk.specs.declared.amendment.AmendFault.{AmendFault}
use Rattle.esc_desk.specs.declared.event.Event.{Event}
use Rattle.esc_desk.specs.declared.event.Event.TheVariants.{Arrival, Amend, AsOf}
use Rattle.esc_desk.specs.declared.event.EventOutcome.{EventOutcome}
use Rattle.esc_desk.specs.declared.event.EventOutcome.TheVariants.{Arrived, Amended, Moved}
use Rattle.esc_desk.specs.declared.event.Outcome.{Outcome}
use Rattle.esc_desk.specs.declared.event.Outcome.TheVariants.{Done, Lost}

-- the rows that a manifest's text reads as; none if it was refused
abbrev pub rows_read : Result (List MRow) (ManifestRefusal × ℕ) → List MRow
rows_read (Ok rows) = rows
rows_read (Err fault) = []

-- an amendment's text, as an event
abbrev pub amendment_of : List ℕ → EventValue
amendment_of text = listed (rows_read (manifest_of text))

-- what is asked for, as an event
abbrev pub event_of : Event → EventValue
event_of (Arrival a) = arrived a
event_of (Amend text) = amendment_of text.now
event_of (AsOf moment) = moved moment

-- an event with an outcome of its kind
pub data Matched : Type 0 where
  of_arrival : ArrivalValue → Outcome → Matched
  of_amendment : List ℕ → Result ℕ AmendFault → Matched
  of_moment : Option ℤ → Result (Unit {0}) StoreFault → Matched

-- an event with its outcome, if that is of its kind
abbrev pub matched : Event → EventOutcome → Option Matched
matched (Arrival a) (Arrived o) = Some (of_arrival a o)
matched (Arrival a) (Amended r) = None
matched (Arrival a) (Moved r) = None
matched (Amend text) (Arrived o) = None
matched (Amend text) (Amended r) = Some (of_amendment text.now r)
matched (Amend text) (Moved r) = None
matched (AsOf moment) (Arrived o) = None
matched (AsOf moment) (Amended r) = None
matched (AsOf moment) (Moved r) = Some (of_moment moment r)

-- whether an event with this outcome was taken in
abbrev pub is_taken : EventOutcome → Bool
is_taken (Arrived (Done r)) = true
is_taken (Arrived (Lost f)) = false
is_taken (Amended (Ok count)) = true
is_taken (Amended (Err f)) = false
is_taken (Moved (Ok set)) = true
is_taken (Moved (Err f)) = false

-- the event, if it was taken in
abbrev pub taken_by : Event → EventOutcome → List EventValue
taken_by x o = if is_taken o then event_of x ∷ [] else []

-- the events that were taken in, in order
abbrev pub taken_in : List Event → List EventOutcome → List EventValue
taken_in [] os = []
taken_in (x ∷ xs) [] = []
taken_in (x ∷ xs) (o ∷ os) = taken_by x o ++ taken_in xs os

-- ---- arrivals alone

-- an arrival and what came of it, as an event and its outcome
abbrev pub as_event : ArrivalValue → Event
as_event a = Arrival a

abbrev pub as_outcome : Outcome → EventOutcome
as_outcome o = Arrived o

abbrev pub as_events : List ArrivalValue → List Event
as_events arrivals = map as_event arrivals

abbrev pub as_outcomes : List Outcome → List EventOutcome
as_outcomes outcomes = map as_outcome outcomes
