-- The nine tables of a store.
use Rattle.std.specs.Prelude.{◌≡◌, ◌≤◌, pos, length, slice_get, Some, option_map}
use Rattle.sqlite_value.specs.declared.value.Value.TheVariants.{Int}
use Rattle.sqlite_value.specs.Order.{Row, column}
use Rattle.sqlite_trees.specs.Tree.{Trees}
use Rattle.sqlite.specs.Effect.{Database}
use Rattle.esc_sql.specs.Schema.{store_schema, no_schema, info_tree}
use Rattle.esc_sql.specs.Content.{content_in, HoldsContent, AreStoreTrees}
use Rattle.esc_store.specs.StoreState.{StoreState}
use Rattle.esc_store.specs.TypedRows.{IsBooks, IsRegistry}

-- trees are the nine tables of version 2, in order and sound, and hold exactly this
pub record IsKept (trees : Trees) (k : StoreState) : Type 0 where
  pub tables : AreStoreTrees trees (content_in trees)
  pub books : IsBooks (content_in trees) k
  pub registry : IsRegistry (content_in trees) k.registry

-- these trees are a store that keeps k: the next open finds it
unfoldable pub IsStore : Trees → StoreState → Type 0
IsStore trees k = IsKept trees k

-- a database has the store's tables, whatever they hold
abbrev pub HoldsTables : Database → Type 0
HoldsTables db = HoldsContent db (content_in db.trees)

-- a database is a store that keeps k
pub record IsStoreDatabase (db : Database) (k : StoreState) : Type 0 where
  pub schema : db.schema ≡ store_schema
  pub kept : IsKept db.trees k

-- a database has the nine tables, and its version is 2; the table of the version has at most one
-- row
pub record IsOfVersion (db : Database) : Type 0 where
  pub schema : db.schema ≡ store_schema
  pub version : length (db.trees info_tree) ≤ 1
      → option_map (λ (r : Row). column r 2) (slice_get (db.trees info_tree) 0) ≡ Some (Int (pos 2))

-- a database without any table, index or view
abbrev pub IsBlank : Database → Type 0
IsBlank db = db.schema ≡ no_schema
