-- The words of what is read of a store that reflects a list of events.
use Rattle.std.specs.Prelude.{List, Option, Result, IfOk, OnOk}
use Rattle.sha2.specs.Sha256.{sha256}
use Rattle.esc_envelope.specs.declared.kind.Kind.{Kind}
use Rattle.esc_tables.specs.Reading.{reading}
use Rattle.esc_apply.specs.ObjectStreams.{Entry, InOrder}
use Rattle.esc_store.specs.StoreState.{StoreState}
use Rattle.esc_events.specs.Apart.{WhereApart}
use Rattle.esc_events.specs.Events.{EventValue}
use Rattle.esc_events.specs.LatestTables.{AreEntries}
use Rattle.esc_events.specs.StateAfter.{IsStateAfter}
use Rattle.esc_desk.specs.Walking.{of_kinds}

-- a read, by what was read before it and after it: this follows whatever the read returned; where
-- it succeeded, the events are reflected that were
pub record IsReadOf {R X E : Type 0} (Follows : R → R → Type 0)
    (Reflects : R → List EventValue → Type 0) (old new : R) (result : Result X E) : Type 0 where
  pub follows : Follows old new
  pub reflects : OnOk result ((e : List EventValue) → Reflects old e → Reflects new e)

-- if the disk is honest after a read, and the read succeeded, this holds of the result and of every
-- list of events that was reflected before it
abbrev pub OkForEvents : {R X E : Type 0} → (R → Type 0) → (R → List EventValue → Type 0) → R → R
    → Result X E → (List EventValue → X → Type 0) → Type 0
OkForEvents IsHonest Reflects old new result says = IsHonest new → (e : List EventValue)
    → Reflects old e → IfOk result (says e)

-- the objects of the tables after these events, of one kind or all, are still to come
abbrev pub ListsTables : (List Entry → Type 0) → Option Kind → List EventValue → Type 0
ListsTables Lists kind e = WhereApart e ((es : List Entry) → AreEntries e es → InOrder es
    → Lists (of_kinds kind es))

-- these events lead to a state of a store
pub record HasState (e : List EventValue) : Type 0 where
  pub kept : StoreState
  pub stands_for : IsStateAfter sha256 reading e kept
