-- A connection at rest.
use Rattle.std.specs.Prelude.{List}
use Rattle.sha2.specs.Sha256.{sha256}
use Rattle.sqlite_trees.specs.declared.store.Store.{Ghosts}
use Rattle.sqlite.specs.Held.{Held}
use Rattle.esc_tables.specs.Reading.{reading}
use Rattle.esc_store.specs.StoreState.{StoreState}
use Rattle.esc_store.specs.Representation.{HoldsKept}
use Rattle.esc_events.specs.Events.{EventValue}
use Rattle.esc_events.specs.StateAfter.{IsStateAfter}

-- what a connection at rest holds is a store that stands for these events
pub record RestsFor {S : Type 0} (g : Ghosts S) (conn : Held S) (e : List EventValue) : Type 0 where
  pub kept : StoreState
  pub holds : HoldsKept g conn kept
  pub stands_for : IsStateAfter sha256 reading e kept
