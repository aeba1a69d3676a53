-- A store of version 1, which has the first seven tables alone, and what makes it one of version 2.
use Rattle.std.specs.List.{AllByRecursion}
use Rattle.std.specs.Prelude.{◌≡◌, ◌<◌, ◌+◌, ℕ, [], ◌∷◌, map, slice_index_or}
use Rattle.sqlite_schema.specs.declared.schema.Table.{Table}
use Rattle.sqlite_trees.specs.Tree.{Trees}
use Rattle.sqlite.specs.Effect.{Database}
use Rattle.sqlite_catalog.specs.Listing.{IsSound}
use Rattle.esc_sql.specs.Schema.{schema_of, store_schema, first_schema, info_tree, info_table}
use Rattle.esc_sql.specs.Rows.{first_info_row}
use Rattle.esc_sql.specs.StoreTable.{StoreTable, table_index, tree_of, stored_row}
use Rattle.esc_sql.specs.Content.{Content, IsInOrder, HoldsContent, rows_of, content_in}

-- the trees are those of version 1, with exactly these rows; so no body is parked, and no moment is
-- set
pub record HoldsFirstRows (trees : Trees) (c : Content) : Type 0 where
  pub info : trees info_tree ≡ first_info_row ∷ []
  pub tables : (t : StoreTable) → table_index t < 7
      → trees (tree_of t) ≡ map (stored_row t) (rows_of c t)
  pub parked : c.parked ≡ []
  pub moment : c.moment ≡ []

-- the trees are those of a store of version 1 with this content: they list its schema and obey it
pub record AreFirstTrees (trees : Trees) (c : Content) : Type 0 where
  pub rows : HoldsFirstRows trees c
  pub ordered : IsInOrder c
  pub sound : IsSound first_schema trees

-- the database is a store of version 1 with this content
pub record HoldsFirstContent (db : Database) (c : Content) : Type 0 where
  pub schema_is : db.schema ≡ first_schema
  pub store : AreFirstTrees db.trees c

-- the content of a store of version 1 by its trees; of other trees it is of no meaning
abbrev pub first_content_in : Trees → Content
first_content_in trees = record (content_in trees) { parked = []; moment = [] }

-- ---- from version 1 to version 2

-- a store of version 1 becomes one of version 2, with the same content
abbrev pub Upgrades : Database → Database → Type 0
Upgrades old new = (c : Content) → HoldsFirstContent old c → HoldsContent new c

-- the table with this index in the schema, from 0
abbrev pub table_at : ℕ → Table
table_at at = slice_index_or store_schema.tables at info_table

-- the table with this index is added: it is empty, and each table before it keeps its rows
pub record IsTableAdded (at : ℕ) (old new : Database) : Type 0 where
  pub schema_is : new.schema ≡ schema_of (at + 1)
  pub empty : new.trees (table_at at).tree ≡ []
  pub others : AllByRecursion (λ t. new.trees t.tree ≡ old.trees t.tree) (schema_of at).tables

-- the same, where the tables before it are all that there are
abbrev pub AddsTable : ℕ → Database → Database → Type 0
AddsTable at old new = old.schema ≡ schema_of at → IsTableAdded at old new

-- the database has all tables of version 2 and this content, and its version is still 1
pub record IsToBeRaised (db : Database) (c : Content) : Type 0 where
  pub schema_is : db.schema ≡ store_schema
  pub info : db.trees info_tree ≡ first_info_row ∷ []
  pub tables : (t : StoreTable) → db.trees (tree_of t) ≡ map (stored_row t) (rows_of c t)
  pub ordered : IsInOrder c

-- such a database becomes a store of version 2, with the same content
abbrev pub RaisesVersion : Database → Database → Type 0
RaisesVersion old new = (c : Content) → IsToBeRaised old c → HoldsContent new c
