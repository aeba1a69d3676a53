-- A store and a desk that reflect a list of events.
use Rattle.std.specs.Prelude.{List, [], ◌∷◌, ◌++◌, IfSome}
use Rattle.sha2.specs.Sha256.{sha256}
use Rattle.sqlite_trees.specs.declared.store.Store.{Ghosts}
use Rattle.esc_tables.specs.Reading.{reading}
use Rattle.esc_apply.specs.declared.moves.Work.{Work}
use Rattle.esc_store.specs.declared.store.Store.{Store}
use Rattle.esc_store.specs.StoreState.{StoreState}
use Rattle.esc_store.specs.Representation.{Represents}
use Rattle.esc_events.specs.Events.{EventValue}
use Rattle.esc_events.specs.Cache.{IsCacheOf}
use Rattle.esc_events.specs.StateAfter.{IsStateAfter}
use Rattle.esc_events.specs.Works.{IsWorkOf}
use Rattle.esc_desk.specs.declared.desk.Desk.{Desk}

-- a store stands for this list of events
pub record StoreReflects {S : Type 0} (g : Ghosts S) (store : Store S)
    (e : List EventValue) : Type 0 where
  pub kept : StoreState
  pub stands : Represents g store kept
  pub stands_for : IsStateAfter sha256 reading e kept

-- a desk's store stands for this list of events, and what the desk remembers of its rows, if
-- anything, is true
pub record DeskReflects {S : Type 0} (g : Ghosts S) (desk : Desk S)
    (e : List EventValue) : Type 0 where
  pub serves : StoreReflects g desk.store e
  pub remembers : IfSome desk.cache (IsCacheOf serves.kept)

-- an event was taken in: the desk reflects the events with it, and this was its work
pub record TakesIn {S : Type 0} (g : Ghosts S) (desk : Desk S) (e : List EventValue)
    (x : EventValue) (work : Work) : Type 0 where
  pub serves : DeskReflects g desk (e ++ x ∷ [])
  pub works : IsWorkOf e x work
