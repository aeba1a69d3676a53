-- Of what kind an outcome is, and what work a run did.
use Rattle.std.specs.Prelude.{◌≡◌, ℕ, ◌+◌, List, [], ◌∷◌, ◌++◌, Option, Some, None, Result, IfErr}
use Rattle.std.specs.Prelude.{sum_by}
use Rattle.esc_apply.specs.declared.moves.Work.{Work}
use Rattle.esc_apply.specs.Registry.{saturated}
use Rattle.esc_store.specs.declared.fault.StoreFault.{StoreFault}
use Rattle.esc_store.specs.Faults.{IsFailure, IsArrivalFault}
use Rattle.esc_events.specs.Events.{EventValue}
use Rattle.esc_events.specs.Works.{IsWorkOf}
use Rattle.esc_desk.specs.declared.amendment.AmendFault.{AmendFault}
use Rattle.esc_desk.specs.declared.event.Event.{Event}
use Rattle.esc_desk.specs.declared.event.EventOutcome.{EventOutcome}
use Rattle.esc_desk.specs.declared.event.Outcome.{Outcome}
use Rattle.esc_desk.specs.declared.event.Outcome.TheVariants.{Done, Lost}
use Rattle.esc_desk.specs.Amendments.{IsAmendFault}
use Rattle.esc_desk.specs.Asked.{Matched, matched}
use Rattle.esc_desk.specs.Asked.Matched.{of_arrival, of_amendment, of_moment}

-- an arrival was answered, or lost by S1, S2, S4 or S5
abbrev pub IsOutcome : Outcome → Type 0
IsOutcome (Done r) = Unit {0}
IsOutcome (Lost f) = IsArrivalFault f

-- an amendment was taken in, or its text was refused, or it was lost by S1 or S2
abbrev pub IsAmendOutcome : Result ℕ AmendFault → Type 0
IsAmendOutcome result = IfErr result IsAmendFault

-- a moment was set or taken back, or refused by S1 or S2
abbrev pub IsMoveOutcome : Result (Unit {0}) StoreFault → Type 0
IsMoveOutcome result = IfErr result IsFailure

-- the outcome is of the event's kind, and a refusal is one that this kind may have
abbrev pub IsOutcomeOf : Option Matched → Type 0
IsOutcomeOf None = ⊥
IsOutcomeOf (Some (of_arrival a o)) = IsOutcome o
IsOutcomeOf (Some (of_amendment text r)) = IsAmendOutcome r
IsOutcomeOf (Some (of_moment moment r)) = IsMoveOutcome r

-- the same of each event of a list
abbrev pub AreOutcomesOf : List Event → List EventOutcome → Type 0
AreOutcomesOf [] [] = Unit {0}
AreOutcomesOf [] (o ∷ os) = ⊥
AreOutcomesOf (x ∷ xs) [] = ⊥
AreOutcomesOf (x ∷ xs) (o ∷ os) = IsOutcomeOf (matched x o) × AreOutcomesOf xs os

-- each of these is the work of one of the events xs, after e and those before it
abbrev pub AreWorksOf : List EventValue → List EventValue → List Work → Type 0
AreWorksOf e [] [] = Unit {0}
AreWorksOf e [] (w ∷ ws) = ⊥
AreWorksOf e (x ∷ xs) [] = ⊥
AreWorksOf e (x ∷ xs) (w ∷ ws) = IsWorkOf e x w × AreWorksOf (e ++ x ∷ []) xs ws

-- the writes of these works
abbrev pub writes_in : List Work → ℕ
writes_in works = sum_by (λ (w : Work). w.writes) works

-- the desk's count of writes grew by the writes of the works of the events xs, which were taken in
-- after e
pub record HasWorked (e xs : List EventValue) (was now : ℕ) : Type 0 where
  pub works : List Work
  pub are_works : AreWorksOf e xs works
  pub counted : now ≡ saturated (was + writes_in works)
