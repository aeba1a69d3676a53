-- The index of the objects' keys, and what is read of it.
use Rattle.std.specs.Prelude.{◌≡◌, ◌≢◌, ◌⊎◌, ◌++◌, ◌≤◌, ⊤, ℕ, pos, List, [], ◌∷◌, length}
use Rattle.std.specs.Prelude.{Option, Some, None}
use Rattle.std.specs.List.{AllByRecursion}
use Rattle.sqlite_value.specs.declared.value.Value.TheVariants.{Int, Blob}
use Rattle.sqlite_value.specs.Order.{Row}
use Rattle.sqlite_value.specs.Keys.{plain}
use Rattle.sqlite_trees.specs.Tree.{Trees}
use Rattle.sqlite_trees.specs.View.{View}
use Rattle.sqlite_trees.specs.declared.store.Shape.TheVariants as shape
use Rattle.esc_sql.specs.Rows.{ObjectRow}
use Rattle.esc_sql.specs.Schema.{object_keys}
use Rattle.esc_sql.specs.StoreTable.{Objects, tree_of}
use Rattle.esc_sql.specs.Reading.{AreRead}
use Rattle.esc_sql.specs.Content.{Content, AreStoreTrees, HoldsRows}
use Rattle.esc_scan.specs.Scanning.{left_of, ReadsNext}
use Rattle.esc_scan.specs.declared.page.KeyEntry.{KeyEntry}

-- the trees hold the rows of a store with this content, and the index of keys that the store has
pub record ShowsStore (trees store : Trees) (c : Content) : Type 0 where
  pub rows : HoldsRows trees c
  pub keys : trees object_keys.tree ≡ store object_keys.tree

-- the trees have the index of keys of some store with this content
abbrev pub HasKeys : Trees → Content → Type 0
HasKeys trees c =
    (store : Trees) × AreStoreTrees store c × (trees object_keys.tree ≡ store object_keys.tree)

-- the table of objects and the index of their keys have their shapes
pub record AreShaped (v : View) : Type 0 where
  pub objects : v.shape (tree_of Objects) ≡ shape.Table
  pub keys : v.shape object_keys.tree ≡ shape.Index plain

-- an object's entry in the index: its kind, its key and its rowid
abbrev pub key_entry : ObjectRow → Row
key_entry o = Int (pos o.kind) ∷ Blob o.key ∷ Int (pos o.id) ∷ []

-- an entry is read as the kind and the rowid of its object
abbrev pub IsKeyRead : Row → KeyEntry → Type 0
IsKeyRead row it = (o : ObjectRow) → row ≡ key_entry o → (it.kind ≡ o.kind) × (it.rowid ≡ pos o.id)

-- no entry follows, or one of another kind
abbrev pub EndsKind : ℕ → List Row → Type 0
EndsKind kind [] = ⊤
EndsKind kind (row ∷ rows) =
    (it : KeyEntry) × IsKeyRead row it × (it.kind ≢ kind)

-- the scan gives the next entry, if that is of the kind
abbrev pub GivesOfKind : ℕ → View → View → Option KeyEntry → Type 0
GivesOfKind kind old new None = EndsKind kind (left_of old)
GivesOfKind kind old new (Some it) = ReadsNext IsKeyRead old new (Some it) × (it.kind ≡ kind)

-- these are read of the first 256 of the rows, up to the first of another kind
pub record AreFirstOf (kind : ℕ) (rows : List Row) (read : List KeyEntry) : Type 0 where
  pub given : List Row
  pub rest : List Row
  pub whole : rows ≡ given ++ rest
  pub are : AreRead IsKeyRead given read
  pub of_kind : AllByRecursion (λ (it : KeyEntry). it.kind ≡ kind) read
  pub few : length read ≤ 256
  pub ends : (length read ≡ 256) ⊎ EndsKind kind rest
