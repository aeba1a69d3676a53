-- What the trees of files that were opened with a schema of ours read as.
use Rattle.std.specs.Prelude.{◌≡◌, ◌<◌, ◌==◌, ℕ, List, find, Some}
use Rattle.sqlite_wal.specs.Recovery.{Image}
use Rattle.sqlite_schema.specs.declared.schema.Table.{Table}
use Rattle.sqlite_schema.specs.declared.schema.Index.{Index}
use Rattle.sqlite_schema.specs.declared.schema.Schema.{Schema}
use Rattle.sqlite_schema.specs.Rules.{table_reals, index_reals}
use Rattle.sqlite_rules.specs.Lists.{Has}
use Rattle.sqlite_trees.specs.Tree.{Trees}
use Rattle.sqlite_trees.specs.declared.store.Shape.TheVariants as shape
use Rattle.sqlite_catalog.specs.Listing.{IsSound}
use Rattle.sqlite_store.specs.declared.catalog.Wanted.{Wanted}
use Rattle.sqlite_store.specs.Catalog.{shape_at, reals_at}
use Rattle.sqlite.specs.Opening.{HoldsAt}

-- our schema has this table at its tree
pub record HasTable (ours : List Wanted) (table : Table) : Type 0 where
  pub low : table.tree < 65536
  pub shape : shape_at ours table.tree ≡ shape.Table
  pub reals : reals_at ours table.tree ≡ table_reals table

-- our schema has this index at its tree
pub record HasIndex (ours : List Wanted) (index : Index) : Type 0 where
  pub low : index.tree < 65536
  pub shape : shape_at ours index.tree ≡ shape.Index index.order

-- where the files hold a database, the trees are its trees, at each table of its schema and ours
abbrev pub ReadsTables : ℕ → Image → List Wanted → Trees → Type 0
ReadsTables size image ours trees =
    (db : Trees) (schema : Schema) → HoldsAt size image db → IsSound schema db
    → (table : Table) → Has schema.tables table → HasTable ours table
    → trees table.tree ≡ db table.tree

-- the REAL columns of an index, by its table
abbrev pub HasReals : Schema → Index → ℕ → Type 0
HasReals schema index reals =
    (t : Table) × (find (λ (u : Table). u.tree == index.table) schema.tables ≡ Some t)
    × (reals ≡ index_reals (table_reals t) index.columns)

-- the same at each index
abbrev pub ReadsIndexes : ℕ → Image → List Wanted → Trees → Type 0
ReadsIndexes size image ours trees =
    (db : Trees) (schema : Schema) → HoldsAt size image db → IsSound schema db
    → (index : Index) → Has schema.indexes index → HasReals schema index (reals_at ours index.tree)
    → HasIndex ours index → trees index.tree ≡ db index.tree
