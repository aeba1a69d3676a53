-- What each single statement does; the calls of this crate are made of these.
use Rattle.std.specs.Prelude.{◌≤◌, ◌≡◌, ◌==◌, ℕ, pos, List, [], ◌∷◌, map, filter, find, length}
use Rattle.std.specs.Prelude.{take, reverse, IsPermutation, IsSorted}
use Rattle.std.specs.Option.{option_to_list}
use Rattle.sqlite_value.specs.declared.value.Value.{Value}
use Rattle.sqlite_value.specs.declared.value.Value.TheVariants.{Int, Blob}
use Rattle.sqlite_value.specs.Order.{Row, column, value_cmp}
use Rattle.esc_sql.specs.Schema.{info_tree, IsOfSomeVersion}
use Rattle.sqlite.specs.Effect.{Database}
use Rattle.sqlite_keyed.specs.Keyed.{get_by}
use Rattle.sqlite_keyed.specs.Lists.{update_where, sort_by}
use Rattle.esc_sql.specs.Rows.{ReceiptRow, HeldRow, ObjectRow, UndoRow, held_number, number_or_null}
use Rattle.esc_sql.specs.Rows.{blob_or_null, shown_listed, shown_receipt, shown_step}
use Rattle.esc_sql.specs.Content.{Content, HoldsContent, is_object_at}
use Rattle.esc_sql.specs.Changes.{by_key, by_image, is_kind_from, is_receipt_of, is_of_verdict}
use Rattle.esc_sql.specs.Changes.{verdict_digests}
use Rattle.esc_sql.specs.Parked.{shown_digest}
use Rattle.esc_sql.specs.Entries.{first_of}

abbrev pub with_bytes : List ℕ → ObjectRow → ObjectRow
with_bytes bytes o = record o { bytes = bytes }

-- the object of this key, if there is one, gets this record
abbrev pub UpdatesObject : ℕ → List ℕ → List ℕ → Database → Database → Type 0
UpdatesObject kind key bytes old new = (c : Content) → HoldsContent old c
    → HoldsContent new (record c
    { objects = update_where (is_object_at kind key) (with_bytes bytes) c.objects })

-- the number of objects with this key
abbrev pub CountsObject : ℕ → List ℕ → ℕ → Database → Type 0
CountsObject kind key count db = (c : Content) → HoldsContent db c
    → count ≡ length (filter (is_object_at kind key) c.objects)

-- ---- the rows of each result

abbrev pub shown_bytes : ObjectRow → Row
shown_bytes o = Blob o.bytes ∷ []

abbrev pub ShowsObject : ℕ → List ℕ → Content → List Row → Type 0
ShowsObject kind key c rows = rows
    ≡ map shown_bytes (option_to_list (find (is_object_at kind key) c.objects))

abbrev pub shown_object : ObjectRow → Row
shown_object o = Int (pos o.kind) ∷ Blob o.key ∷ Blob o.bytes ∷ []

abbrev pub ShowsFrom : ℕ → List ℕ → Content → List Row → Type 0
ShowsFrom kind from c rows = rows
    ≡ take 256 (map shown_object (sort_by by_key (filter (is_kind_from kind from) c.objects)))

abbrev pub shown_kind : ObjectRow → Row
shown_kind o = Int (pos o.kind) ∷ []

abbrev pub ShowsKinds : Content → List Row → Type 0
ShowsKinds c rows = rows ≡ map shown_kind (sort_by by_key c.objects)

abbrev pub shown_image : UndoRow → Row
shown_image u = Int (pos u.kind) ∷ Blob u.key ∷ blob_or_null u.bytes ∷ []

abbrev pub ShowsImages : ℕ → Content → List Row → Type 0
ShowsImages at c rows = rows ≡ map shown_image
    (sort_by by_image (filter (λ (u : UndoRow). u.pos == at) c.undo))

abbrev pub ShowsReceipt : List ℕ → List ℕ → Content → List Row → Type 0
ShowsReceipt number digest c rows = rows
    ≡ map shown_receipt (option_to_list (find (is_receipt_of number digest) c.receipts))

abbrev pub ShowsReceipts : Content → List Row → Type 0
ShowsReceipts c rows = rows ≡ map shown_receipt c.receipts

abbrev pub shown_receipt_number : ReceiptRow → Row
shown_receipt_number r = Int (pos r.receipt) ∷ []

-- the last receipt alone
abbrev pub ShowsLast : Content → List Row → Type 0
ShowsLast c rows = rows ≡ take 1 (map shown_receipt_number (reverse c.receipts))

-- the row that a receipt names, or NULL
abbrev pub row_value : ReceiptRow → Value
row_value r = number_or_null r.row

-- the rows that the receipts with a verdict name, in the order of values
pub record ShowsRows (verdict : ℕ) (c : Content) (rows : List Row) : Type 0 where
  pub sorted : IsSorted value_cmp (map first_of rows)
  pub same : IsPermutation (map row_value (filter (is_of_verdict verdict) c.receipts))
      (map first_of rows)

abbrev pub ShowsVerdictDigests : ℕ → Content → List Row → Type 0
ShowsVerdictDigests verdict c rows = rows ≡ map shown_digest (verdict_digests verdict c.receipts)

abbrev pub shown_body : HeldRow → Row
shown_body h = Blob h.body ∷ []

abbrev pub ShowsBody : ℕ → Content → List Row → Type 0
ShowsBody row c rows = rows ≡ map shown_body (option_to_list (get_by held_number c.held (pos row)))

abbrev pub ShowsSteps : Content → List Row → Type 0
ShowsSteps c rows = rows ≡ map shown_step c.steps

abbrev pub ShowsListed : Content → List Row → Type 0
ShowsListed c rows = rows ≡ map shown_listed c.listed

abbrev pub ShowsVersion : Database → List Row → Type 0
ShowsVersion db rows = IsOfSomeVersion db.schema → length (db.trees info_tree) ≤ 1
    → rows ≡ map (λ r. column r 2 ∷ []) (db.trees info_tree)
