-- A new store, and the texts that make its tables.
use Rattle.std.specs.List.{AllByRecursion}
use Rattle.std.specs.Prelude.{◌≡◌, ◌≤◌, ℤ, List, [], length, slice_get, Option, option_map}
use Rattle.sqlite_value.specs.declared.value.Value.TheVariants.{Int}
use Rattle.sqlite_value.specs.Order.{Row, column}
use Rattle.sqlite_schema.specs.declared.schema.Schema.{Schema}
use Rattle.sqlite.specs.Effect.{Database}
use Rattle.sqlite_keyed.specs.Keyed.{IsKeyedBy}
use Rattle.esc_sql.specs.Schema.{no_schema, store_schema, info_tree, IsOfSomeVersion}
use Rattle.esc_sql.specs.Rows.{ListedRow, listed_number}
use Rattle.esc_sql.specs.Content.{Content, HoldsContent}

-- a database of this schema whose tables are empty
pub record IsBuilt (schema : Schema) (db : Database) : Type 0 where
  pub schema_is : db.schema ≡ schema
  pub empty : AllByRecursion (λ t. db.trees t.tree ≡ []) schema.tables

-- from an empty database of one schema to an empty one of the next
abbrev pub Builds : Schema → Schema → Database → Database → Type 0
Builds before after old new = IsBuilt before old → IsBuilt after new

-- the content of a new store: the rows of its manifest, and nothing else
abbrev pub fresh_content : List ListedRow → Content
fresh_content rows = record {
  listed = rows;
  receipts = [];
  held = [];
  steps = [];
  objects = [];
  undo = [];
  parked = [];
  moment = [];
}

-- the empty tables become a store of version 2 without rows
abbrev pub MakesEmpty : Database → Database → Type 0
MakesEmpty old new = IsBuilt store_schema old → HoldsContent new (fresh_content [])

-- a database without table, index or view becomes the store of these rows, if they are in order
abbrev pub MakesStore : List ListedRow → Database → Database → Type 0
MakesStore rows old new = old.schema ≡ no_schema → IsKeyedBy listed_number rows
    → HoldsContent new (fresh_content rows)

-- the version in `info`, if it has a row, in a store of either version
abbrev pub TellsVersion : Database → Option ℤ → Type 0
TellsVersion db version = IsOfSomeVersion db.schema → length (db.trees info_tree) ≤ 1
    → option_map Int version ≡ option_map (λ (r : Row). column r 2)
    (slice_get (db.trees info_tree) 0)

-- the same, as far as it is made: with the first of the rows
abbrev pub MakesFirst : List ListedRow → List ListedRow → Database → Database → Type 0
MakesFirst rows first old new = old.schema ≡ no_schema → IsKeyedBy listed_number rows
    → HoldsContent new (fresh_content first)
