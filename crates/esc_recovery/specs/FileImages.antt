-- What the two files of a store hold, and what a desk that was opened on them reflects.
use Rattle.std.specs.Prelude.{◌≡◌, ◌⊎◌, List, [], ◌∷◌, ◌++◌}
use Rattle.sqlite_wal.specs.Recovery.{Image}
use Rattle.sqlite_trees.specs.declared.store.Store.{Ghosts}
use Rattle.sqlite_trees.specs.Tree.{Trees}
use Rattle.sqlite.specs.Effect.{Database, IsDatabase}
use Rattle.sqlite.specs.Files.{HoldsDatabase}
use Rattle.esc_manifest.specs.declared.row.MRow.{MRow}
use Rattle.esc_store.specs.FirstVersion.{IsOfFirstVersion}
use Rattle.esc_store.specs.StoreTables.{IsOfVersion}
use Rattle.esc_desk.specs.declared.desk.Desk.{Desk}
use Rattle.esc_events.specs.ArrivalValue.{ArrivalValue}
use Rattle.esc_events.specs.Events.{EventValue}
use Rattle.esc_events.specs.FirstVersion.{events_before}
use Rattle.esc_desk.specs.Calls.{DeskLeaves}
use Rattle.esc_desk.specs.Reflection.{DeskReflects}
use Rattle.esc_desk.specs.Crashes.{IsStoreFor, IsStoreForOneOf}
use Rattle.esc_recovery.specs.Opened.{IsFirstStoreFor}

-- the two files hold a store of these events
abbrev pub HoldsStoreFor : Image → List EventValue → Type 0
HoldsStoreFor image e = (trees : Trees) × ∥ HoldsDatabase image trees ∥₁ × IsStoreFor trees e

-- the two files hold a store of version 1 with this manifest and these arrivals
abbrev pub HoldsFirstStoreFor : Image → List MRow → List ArrivalValue → Type 0
HoldsFirstStoreFor image m l = (trees : Trees) × ∥ HoldsDatabase image trees ∥₁
    × IsFirstStoreFor trees m l

-- this holds of the database that the two files hold, if they hold one
abbrev pub Holds : (Database → Type 0) → Image → Type 0
Holds Is image = (trees : Trees) → ∥ HoldsDatabase image trees ∥₁
    → (db : Database) × (db.trees ≡ trees) × IsDatabase db × Is db

-- the two files hold a store of these events, or of them and one of those in doubt
abbrev pub HoldsOneOf : Image → List EventValue → List EventValue → Type 0
HoldsOneOf image e doubtful = ∥ ((trees : Trees) × HoldsDatabase image trees
    × IsStoreForOneOf trees e doubtful) ∥₁

-- a list is that of these events, or of them and one of those in doubt
abbrev pub IsOneOf : List EventValue → List EventValue → List EventValue → Type 0
IsOneOf x e [] = x ≡ e
IsOneOf x e (y ∷ doubtful) = (x ≡ e ++ y ∷ []) ⊎ IsOneOf x e doubtful

-- a desk reflects these events, or them and one of those in doubt, and none is in doubt any more
abbrev pub ServesOneOf : {S : Type 0} → Ghosts S → Desk S → List EventValue → List EventValue
    → Type 0
ServesOneOf g desk e doubtful = ∥ ((x : List EventValue) × IsOneOf x e doubtful
    × DeskReflects g desk x × DeskLeaves g desk x []) ∥₁

-- the desk is over the store that the two files hold: it reflects the events of that, and none is
-- in doubt; of what a crash left it reflects the events, or them and one of those in doubt. The
-- files hold the nine tables, and version 2
pub record IsOpenedFrom {S : Type 0} (g : Ghosts S) (image : Image) (desk : Desk S) : Type 0 where
  pub serves : (e : List EventValue) → HoldsStoreFor image e
      → DeskReflects g desk e × DeskLeaves g desk e []
  pub found : (e doubtful : List EventValue) → HoldsOneOf image e doubtful
      → ServesOneOf g desk e doubtful
  pub version : Holds IsOfVersion image

-- the desk is over the store of version 1 that the two files hold: it reflects the manifest of
-- that, and its arrivals as early ones, and none is in doubt. The files hold the seven tables, and
-- version 1
pub record IsMigratedFrom {S : Type 0} (g : Ghosts S) (image : Image) (desk : Desk S)
    : Type 0 where
  pub serves : (m : List MRow) (l : List ArrivalValue) → HoldsFirstStoreFor image m l
      → DeskReflects g desk (events_before m l) × DeskLeaves g desk (events_before m l) []
  pub version : Holds IsOfFirstVersion image
