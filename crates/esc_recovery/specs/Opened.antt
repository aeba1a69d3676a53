-- What a desk reflects that was made, opened or migrated over a connection's database.
use Rattle.std.specs.Prelude.{List, [], ◌∷◌}
use Rattle.sha2.specs.Sha256.{sha256}
use Rattle.sqlite_trees.specs.declared.store.Store.{Ghosts}
use Rattle.sqlite_trees.specs.Tree.{Trees}
use Rattle.sqlite.specs.Held.{Held}
use Rattle.sqlite.specs.State.{State, HasCleanDisk}
use Rattle.esc_tables.specs.Reading.{reading}
use Rattle.esc_manifest.specs.declared.row.MRow.{MRow}
use Rattle.esc_store.specs.FirstVersion.{IsFirstStore, IsOfFirstVersion, LeavesFirstOr}
use Rattle.esc_store.specs.StoreState.{StoreState}
use Rattle.esc_store.specs.StoreTables.{IsBlank, IsOfVersion}
use Rattle.esc_events.specs.ArrivalValue.{ArrivalValue}
use Rattle.esc_events.specs.Events.{EventValue}
use Rattle.esc_events.specs.Events.EventValue.{listed}
use Rattle.esc_events.specs.FirstVersion.{StoodFor, events_before}
use Rattle.esc_desk.specs.declared.desk.Desk.{Desk}
use Rattle.esc_desk.specs.Calls.{DeskLeaves, IsHonestDesk}
use Rattle.esc_desk.specs.Crashes.{IsStoreFor}
use Rattle.esc_desk.specs.Reflection.{DeskReflects}

-- these trees are a store of version 1 with this manifest and these arrivals
pub record IsFirstStoreFor (trees : Trees) (m : List MRow) (l : List ArrivalValue) : Type 0 where
  pub kept : StoreState
  pub store : IsFirstStore trees kept
  pub stood_for : StoodFor sha256 reading m l kept

module _ {S : Type 0} (g : Ghosts S) (old : State) (desk : Desk S) where
  -- the desk is over a new store of these rows: the database had no table, index or view, and no
  -- event is in doubt
  pub record IsNewOn (rows : List MRow) : Type 0 where
    pub honest : IsHonestDesk g desk → HasCleanDisk old
    pub blank : IsBlank old.now
    pub serves : DeskReflects g desk (listed rows ∷ [])
    pub left : DeskLeaves g desk (listed rows ∷ []) []

  -- the desk is over the store that the database was: it reflects the events for which that stood,
  -- and none is in doubt
  pub record IsOpenedOn : Type 0 where
    pub honest : IsHonestDesk g desk → HasCleanDisk old
    pub serves : IsHonestDesk g desk → (e : List EventValue) → IsStoreFor old.committed.trees e
        → DeskReflects g desk e
    pub left : (e : List EventValue) → IsStoreFor old.committed.trees e → DeskLeaves g desk e []
    pub version : IsHonestDesk g desk → IsOfVersion old.now

  -- the desk is over the store of version 1 that the database was: it reflects the manifest of
  -- that, and its arrivals as early ones, and no event is in doubt
  pub record IsMigratedOn : Type 0 where
    pub honest : IsHonestDesk g desk → HasCleanDisk old
    pub serves : IsHonestDesk g desk → (m : List MRow) (l : List ArrivalValue)
        → IsFirstStoreFor old.committed.trees m l → DeskReflects g desk (events_before m l)
    pub left : (m : List MRow) (l : List ArrivalValue)
        → IsFirstStoreFor old.committed.trees m l → DeskLeaves g desk (events_before m l) []
    pub version : IsHonestDesk g desk → IsOfFirstVersion old.now

-- what a crash leaves after a migration that gave a desk: the store of version 1, or one of this
-- version that keeps the same
abbrev pub DeskLeavesFirstOr : {S : Type 0} → Ghosts S → Held S → Desk S → StoreState → Type 0
DeskLeavesFirstOr g old desk k = LeavesFirstOr g old desk.store.conn k
