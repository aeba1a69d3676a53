-- Stores of version 1, which keep no body that no row lists, and no moment.
use Rattle.std.specs.Prelude.{◌≡◌, ◌⊎◌, ◌≤◌, pos, false, length, slice_get, Some, option_map}
use Rattle.std.specs.Prelude.{IsTrue}
use Rattle.sqlite_value.specs.declared.value.Value.TheVariants.{Int}
use Rattle.sqlite_value.specs.Order.{Row, column}
use Rattle.sqlite_trees.specs.declared.store.Store.{Ghosts}
use Rattle.sqlite_trees.specs.Tree.{Trees}
use Rattle.sqlite.specs.Effect.{Database}
use Rattle.sqlite.specs.Held.{Held, state}
use Rattle.sqlite.specs.State.{State, HasCleanDisk, Opens}
use Rattle.esc_sql.specs.Schema.{first_schema, info_tree}
use Rattle.esc_sql.specs.FirstVersion.{first_content_in, AreFirstTrees}
use Rattle.esc_store.specs.StoreState.{StoreState}
use Rattle.esc_store.specs.Representation.{LeavesOr}
use Rattle.esc_store.specs.StoreTables.{IsStore}
use Rattle.esc_store.specs.TypedRows.{IsBooks, IsRegistry}

-- trees are the seven tables of version 1, in order and sound, and hold exactly this; so no body is
-- parked, and no moment is set
pub record IsFirstKept (trees : Trees) (k : StoreState) : Type 0 where
  pub tables : AreFirstTrees trees (first_content_in trees)
  pub books : IsBooks (first_content_in trees) k
  pub registry : IsRegistry (first_content_in trees) k.registry

-- these trees are a store of version 1 that keeps k
unfoldable pub IsFirstStore : Trees → StoreState → Type 0
IsFirstStore trees k = IsFirstKept trees k

-- a database is a store of version 1 that keeps k
pub record IsFirstDatabase (db : Database) (k : StoreState) : Type 0 where
  pub schema : db.schema ≡ first_schema
  pub kept : IsFirstKept db.trees k

-- a database has the seven tables, and its version is 1; the table of the version has at most one
-- row
pub record IsOfFirstVersion (db : Database) : Type 0 where
  pub schema : db.schema ≡ first_schema
  pub version : length (db.trees info_tree) ≤ 1
      → option_map (λ (r : Row). column r 2) (slice_get (db.trees info_tree) 0) ≡ Some (Int (pos 1))

-- the database of a connection is a store of version 1 that keeps k, and no transaction is on
pub record IsFirstAtRest (s : State) (k : StoreState) : Type 0 where
  pub kept : IsFirstDatabase s.committed k
  pub same : s.now ≡ s.committed
  pub autocommit : s.in_transaction ≡ false

-- the same, if the disk gave back what was written to it, and the connection is open
unfoldable pub HoldsFirst : {S : Type 0} → Ghosts S → Held S → StoreState → Type 0
HoldsFirst g conn k = HasCleanDisk (state g conn) → IsTrue (state g conn).is_open
    → IsFirstAtRest (state g conn) k

-- what a connection sees is a store of version 1 that keeps k, if the disk gave back what was
-- written to it, and the connection is open
abbrev pub SeesFirst : State → StoreState → Type 0
SeesFirst s k = HasCleanDisk s → IsTrue s.is_open → IsFirstKept s.now.trees k

-- a crash after a call leaves what it might leave before, or a store that keeps k; so of a
-- connection that was just opened on a store of version 1 it leaves this store, or one of this
-- version that keeps the same
pub record LeavesFirstOr {S : Type 0} (g : Ghosts S) (old new : Held S) (k : StoreState)
    : Type 0 where
  pub adds : LeavesOr g old new k
  pub opened : Opens (state g old) → HasCleanDisk (state g new) → (trees : Trees)
      → (state g new).may_leave trees → IsFirstStore trees k ⊎ IsStore trees k
