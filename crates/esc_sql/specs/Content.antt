-- What a store holds, as typed rows.
use Rattle.std.specs.Prelude.{◌≡◌, ◌==◌, ◌&&◌, ℕ, ℤ, pos, negsuc, Bool, List, [], ◌∷◌, map}
use Rattle.std.specs.Prelude.{find}
use Rattle.std.specs.Prelude.{Option, Some, None, option_map, bytes_eq}
use Rattle.sqlite_value.specs.declared.value.Value.{Value}
use Rattle.sqlite_value.specs.declared.value.Value.TheVariants.{Null, Int, Real, Text, Blob}
use Rattle.sqlite_value.specs.Order.{Row, column}
use Rattle.sqlite_trees.specs.Tree.{Trees}
use Rattle.sqlite.specs.Effect.{Database}
use Rattle.sqlite_catalog.specs.Listing.{IsSound}
use Rattle.sqlite_keyed.specs.Keyed.{IsKeyedBy}
use Rattle.esc_sql.specs.Schema.{store_schema, info_tree, listed_tree, receipt_tree, held_tree}
use Rattle.esc_sql.specs.Schema.{step_tree, object_tree, undo_tree, parked_tree, moment_tree}
use Rattle.esc_sql.specs.Rows.{ListedRow, ReceiptRow, HeldRow, StepRow, ObjectRow, UndoRow}
use Rattle.esc_sql.specs.Rows.{ParkedRow, MomentRow, info_row}
use Rattle.esc_sql.specs.StoreTable.{StoreTable, Listed, Receipts, Held, Steps, Objects, Undo}
use Rattle.esc_sql.specs.StoreTable.{Parked, Moment, RowOf, tree_of, row_number, stored_row}

-- the rows of the eight tables after `info`
pub record Content : Type 0 where
  pub listed : List ListedRow
  pub receipts : List ReceiptRow
  pub held : List HeldRow
  pub steps : List StepRow
  pub objects : List ObjectRow
  pub undo : List UndoRow
  pub parked : List ParkedRow
  pub moment : List MomentRow

-- the rows of each table
abbrev pub rows_of : Content → (t : StoreTable) → List (RowOf t)
rows_of c Listed = c.listed
rows_of c Receipts = c.receipts
rows_of c Held = c.held
rows_of c Steps = c.steps
rows_of c Objects = c.objects
rows_of c Undo = c.undo
rows_of c Parked = c.parked
rows_of c Moment = c.moment

-- the same content but for the rows of one table
abbrev pub with_rows : Content → (t : StoreTable) → List (RowOf t) → Content
with_rows c Listed rows = record c { listed = rows }
with_rows c Receipts rows = record c { receipts = rows }
with_rows c Held rows = record c { held = rows }
with_rows c Steps rows = record c { steps = rows }
with_rows c Objects rows = record c { objects = rows }
with_rows c Undo rows = record c { undo = rows }
with_rows c Parked rows = record c { parked = rows }
with_rows c Moment rows = record c { moment = rows }

-- the trees are those of version 2, with exactly these rows
pub record HoldsRows (trees : Trees) (c : Content) : Type 0 where
  pub info : trees info_tree ≡ info_row ∷ []
  pub tables : (t : StoreTable) → trees (tree_of t) ≡ map (stored_row t) (rows_of c t)

-- each table is in the order of its rowids, and no rowid occurs twice
abbrev pub IsInOrder : Content → Type 0
IsInOrder c = (t : StoreTable) → IsKeyedBy (row_number t) (rows_of c t)

-- the trees are those of a store with this content: they list its schema and obey it
pub record AreStoreTrees (trees : Trees) (c : Content) : Type 0 where
  pub rows : HoldsRows trees c
  pub ordered : IsInOrder c
  pub sound : IsSound store_schema trees

-- the database is a store with this content
pub record HoldsContent (db : Database) (c : Content) : Type 0 where
  pub schema_is : db.schema ≡ store_schema
  pub store : AreStoreTrees db.trees c

-- ---- objects and before-images as maps

abbrev pub is_object_at : ℕ → List ℕ → ObjectRow → Bool
is_object_at kind key o = (o.kind == kind) && bytes_eq o.key key

-- the record at this key, if there is one
abbrev pub object_at : ℕ → List ℕ → List ObjectRow → Option (List ℕ)
object_at kind key os = option_map (λ (o : ObjectRow). o.bytes) (find (is_object_at kind key) os)

abbrev pub is_image_at : ℕ → ℕ → List ℕ → UndoRow → Bool
is_image_at at kind key u = (u.pos == at) && ((u.kind == kind) && bytes_eq u.key key)

-- the before-image of this step at this key, if there is one: a record, or none
abbrev pub image_at : ℕ → ℕ → List ℕ → List UndoRow → Option (Option (List ℕ))
image_at at kind key us = option_map (λ (u : UndoRow). u.bytes) (find (is_image_at at kind key) us)

-- the two keys are equal
abbrev pub is_same_key : ℕ → List ℕ → ℕ → List ℕ → Bool
is_same_key kind key k q = (kind == k) && bytes_eq key q

-- the two steps are equal, and so are the two keys
abbrev pub is_same_image : ℕ → ℕ → List ℕ → ℕ → ℕ → List ℕ → Bool
is_same_image at kind key p k q = (at == p) && is_same_key kind key k q

-- ---- parked bodies as a map, and the moment

abbrev pub is_parked_at : List ℕ → ParkedRow → Bool
is_parked_at digest p = bytes_eq p.digest digest

-- the body that is parked under this digest, if one is
abbrev pub parked_at : List ℕ → List ParkedRow → Option (List ℕ)
parked_at digest ps = option_map (λ (p : ParkedRow). p.body) (find (is_parked_at digest) ps)

-- the moment that is set, in nanoseconds since 1970-01-01T00:00:00Z, if one is
abbrev pub moment_set : List MomentRow → Option ℤ
moment_set [] = None
moment_set (m ∷ ms) = Some m.watermark

-- ---- what trees hold, whatever they are

abbrev pub number_in : Value → ℕ
number_in (Int (pos n)) = n
number_in (Int (negsuc n)) = 0
number_in Null = 0
number_in (Real x) = 0
number_in (Text t) = 0
number_in (Blob b) = 0

abbrev pub integer_in : Value → ℤ
integer_in (Int n) = n
integer_in Null = pos 0
integer_in (Real x) = pos 0
integer_in (Text t) = pos 0
integer_in (Blob b) = pos 0

abbrev pub bytes_in : Value → List ℕ
bytes_in (Text t) = t
bytes_in (Blob b) = b
bytes_in Null = []
bytes_in (Int n) = []
bytes_in (Real x) = []

abbrev pub unless_null : {X : Type 0} → (Value → X) → Value → Option X
unless_null f Null = None
unless_null f (Int n) = Some (f (Int n))
unless_null f (Real x) = Some (f (Real x))
unless_null f (Text t) = Some (f (Text t))
unless_null f (Blob b) = Some (f (Blob b))

abbrev pub listed_in : Row → ListedRow
listed_in r = record {
  row = number_in (column r 0);
  id = bytes_in (column r 2);
  kind = number_in (column r 3);
  watermark = integer_in (column r 4);
  prev = unless_null bytes_in (column r 5);
  resend = number_in (column r 6);
  digest = bytes_in (column r 7);
}

abbrev pub receipt_in : Row → ReceiptRow
receipt_in r = record {
  receipt = number_in (column r 0);
  number = bytes_in (column r 2);
  digest = bytes_in (column r 3);
  verdict = number_in (column r 4);
  fault = unless_null number_in (column r 5);
  row = unless_null number_in (column r 6);
  again = unless_null number_in (column r 7);
  orphans = unless_null number_in (column r 8);
}

abbrev pub held_in : Row → HeldRow
held_in r = record { row = number_in (column r 0); body = bytes_in (column r 2) }

abbrev pub step_in : Row → StepRow
step_in r = record { pos = number_in (column r 0); row = number_in (column r 2) }

abbrev pub object_in : Row → ObjectRow
object_in r = record {
  id = number_in (column r 0);
  kind = number_in (column r 1);
  key = bytes_in (column r 2);
  bytes = bytes_in (column r 3);
}

abbrev pub undo_in : Row → UndoRow
undo_in r = record {
  id = number_in (column r 0);
  pos = number_in (column r 1);
  kind = number_in (column r 2);
  key = bytes_in (column r 3);
  bytes = unless_null bytes_in (column r 4);
}

abbrev pub parked_in : Row → ParkedRow
parked_in r = record {
  id = number_in (column r 0);
  digest = bytes_in (column r 1);
  body = bytes_in (column r 2);
}

abbrev pub moment_in : Row → MomentRow
moment_in r = record { watermark = integer_in (column r 2) }

-- the content of a store by its trees; of other trees it is of no meaning
abbrev pub content_in : Trees → Content
content_in trees = record {
  listed = map listed_in (trees listed_tree);
  receipts = map receipt_in (trees receipt_tree);
  held = map held_in (trees held_tree);
  steps = map step_in (trees step_tree);
  objects = map object_in (trees object_tree);
  undo = map undo_in (trees undo_tree);
  parked = map parked_in (trees parked_tree);
  moment = map moment_in (trees moment_tree);
}
