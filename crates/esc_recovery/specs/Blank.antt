-- What a crash leaves while a store is made.
use Rattle.std.specs.Prelude.{◌⊎◌}
use Rattle.sqlite_trees.specs.declared.store.Store.{Ghosts}
use Rattle.sqlite_trees.specs.Tree.{Trees}
use Rattle.sqlite_catalog.specs.Listing.{IsSound}
use Rattle.sqlite.specs.Held.{Held, state}
use Rattle.sqlite.specs.State.{HasCleanDisk, IsLive, Opens}
use Rattle.esc_sql.specs.Schema.{no_schema}
use Rattle.esc_desk.specs.declared.desk.Desk.{Desk}
use Rattle.esc_store.specs.StoreState.{StoreState}
use Rattle.esc_store.specs.StoreTables.{IsBlank, IsStore}

-- from a connection that was just opened on a database without any table, index or view: whatever a
-- crash leaves after the call is such a database, or a store of this
abbrev pub LeavesBlankOr : {S : Type 0} → Ghosts S → Held S → Held S → StoreState → Type 0
LeavesBlankOr g old new k =
    Opens (state g old) → IsLive (state g old) → IsBlank (state g old).now
    → HasCleanDisk (state g new)
    → (trees : Trees) → (state g new).may_leave trees → IsSound no_schema trees ⊎ IsStore trees k

-- the same, where the call gives a desk
abbrev pub DeskLeavesBlankOr : {S : Type 0} → Ghosts S → Held S → Desk S → StoreState → Type 0
DeskLeavesBlankOr g old desk k = LeavesBlankOr g old desk.store.conn k
