-- What each statement does to the content of a store, and what each query returns of it.
use Rattle.std.specs.List.{AllByRecursion}
use Rattle.std.specs.Option.{option_or}
use Rattle.std.specs.Ordering.{nat_cmp, ordering_then, is_le, is_ge}
use Rattle.std.specs.declared.cmp.Ordering.{Ordering}
use Rattle.std.specs.declared.cmp.Ordering.TheVariants.{Less}
use Rattle.std.specs.Cmp.Lexicographic.{slice_cmp}
use Rattle.std.specs.Prelude.{◌≡◌, ◌<◌, ltb, ◌==◌, ◌&&◌, ℕ, pos, false, List, [], ◌∷◌}
use Rattle.std.specs.Prelude.{◌++◌, map}
use Rattle.std.specs.Prelude.{filter, find, length, take, Bool, true, Option, Some, None}
use Rattle.std.specs.Prelude.{option_map, bytes_eq, is_some, if◌then◌else◌, IsPermutation, IsSorted}
use Rattle.sqlite.specs.Effect.{Database}
use Rattle.sqlite_trees.specs.Tree.{IsAscending}
use Rattle.sqlite_keyed.specs.Keyed.{has_key, insert_by, get_by}
use Rattle.sqlite_keyed.specs.Lists.{sort_by}
use Rattle.esc_sql.specs.Rows.{ListedRow, ReceiptRow, HeldRow, StepRow, ObjectRow, UndoRow}
use Rattle.esc_sql.specs.Rows.{listed_number, held_number}
use Rattle.esc_sql.specs.Content.{Content, HoldsContent, object_at, image_at, is_object_at}
use Rattle.esc_sql.specs.Content.{is_same_key, is_same_image}

-- if the database was a store with some content, it is then a store with the changed content
abbrev pub Becomes : (Content → Content) → Database → Database → Type 0
Becomes change old new = (c : Content) → HoldsContent old c → HoldsContent new (change c)

-- if the database is a store, `Says` holds of its content and the result
abbrev pub Tells : {X : Type 0} → (Content → X → Type 0) → Database → X → Type 0
Tells Says db x = (c : Content) → HoldsContent db c → Says c x

-- ---- objects

-- the record is put at the key, and each other key keeps its record
abbrev pub PutsObject : ℕ → List ℕ → List ℕ → Database → Database → Type 0
PutsObject kind key bytes old new =
    (c : Content) → HoldsContent old c
    → (os : List ObjectRow) × HoldsContent new (record c { objects = os })
    × ((k : ℕ) (q : List ℕ)
    → object_at k q os
    ≡ (if is_same_key kind key k q then Some bytes else object_at k q c.objects))

-- the record is put at the key, which had none, and each other key keeps its record
abbrev pub AddsObject : ℕ → List ℕ → List ℕ → Database → Database → Type 0
AddsObject kind key bytes old new =
    (c : Content) → HoldsContent old c
    → (os : List ObjectRow) × HoldsContent new (record c { objects = os })
    × (object_at kind key c.objects ≡ None)
    × ((k : ℕ) (q : List ℕ)
    → object_at k q os
    ≡ (if is_same_key kind key k q then Some bytes else object_at k q c.objects))

-- there is no record at the key, and each other key keeps its record
abbrev pub RemovesObject : ℕ → List ℕ → Database → Database → Type 0
RemovesObject kind key old new =
    (c : Content) → HoldsContent old c
    → (os : List ObjectRow) × HoldsContent new (record c { objects = os })
    × ((k : ℕ) (q : List ℕ)
    → object_at k q os ≡ (if is_same_key kind key k q then None else object_at k q c.objects))

abbrev pub without_objects : Content → Content
without_objects c = record c { objects = [] }

-- an object without its rowid
pub record ObjectEntry : Type 0 where
  pub kind : ℕ
  pub key : List ℕ
  pub bytes : List ℕ

abbrev pub object_entry : ObjectRow → ObjectEntry
object_entry o = record { kind = o.kind; key = o.key; bytes = o.bytes }

-- by kind, then by key
abbrev pub by_key : ObjectRow → ObjectRow → Ordering
by_key a b = ordering_then (nat_cmp a.kind b.kind) (slice_cmp nat_cmp a.key b.key)

abbrev pub is_entry_at : ℕ → List ℕ → ObjectEntry → Bool
is_entry_at kind key e = (e.kind == kind) && bytes_eq e.key key

abbrev pub entry_at : ℕ → List ℕ → List ObjectEntry → Option (List ℕ)
entry_at kind key es = option_map (λ (e : ObjectEntry). e.bytes) (find (is_entry_at kind key) es)

abbrev pub has_entry : ℕ → List ℕ → List ObjectEntry → Bool
has_entry kind key es = is_some (entry_at kind key es)

-- the entries are added at keys that had no record, and each other key keeps its record
pub record GainsObjects (es : List ObjectEntry) (before after : List ObjectRow) : Type 0 where
  pub fresh : (k : ℕ) (q : List ℕ) → has_entry k q es ≡ true → object_at k q before ≡ None
  pub same : (k : ℕ) (q : List ℕ)
      → object_at k q after ≡ option_or (entry_at k q es) (object_at k q before)

abbrev pub PutsObjects : List ObjectEntry → Database → Database → Type 0
PutsObjects es old new =
    (c : Content) → HoldsContent old c
    → (os : List ObjectRow) × HoldsContent new (record c { objects = os })
    × GainsObjects es c.objects os

-- a key is these bytes or comes after them
abbrev pub is_from : List ℕ → List ℕ → Bool
is_from from key = is_ge (slice_cmp nat_cmp key from)

-- an object is of the kind, and its key is these bytes or comes after them
abbrev pub is_kind_from : ℕ → List ℕ → ObjectRow → Bool
is_kind_from kind from o = (o.kind == kind) && is_from from o.key

-- by kind, then by key
abbrev pub by_entry : ObjectEntry → ObjectEntry → Ordering
by_entry a b = ordering_then (nat_cmp a.kind b.kind) (slice_cmp nat_cmp a.key b.key)

-- the key of the last entry, if there is one
abbrev pub last_key : List ObjectEntry → Option (List ℕ)
last_key [] = None
last_key (e ∷ []) = Some e.key
last_key (e ∷ f ∷ es) = last_key (f ∷ es)

-- a key is the last one or comes before it; any key does if there is no last one
abbrev pub is_up_to : Option (List ℕ) → List ℕ → Bool
is_up_to None key = true
is_up_to (Some last) key = is_le (slice_cmp nat_cmp key last)

-- the first 256 objects of a kind from a key on, in order: up to the last of them none is left out,
-- and if there is none at all, the content has none from that key on
pub record ListsFrom (kind : ℕ) (from : List ℕ) (c : Content)
    (found : List ObjectEntry) : Type 0 where
  pub first : found ≡ map object_entry
      (take 256 (sort_by by_key (filter (is_kind_from kind from) c.objects)))
  pub ascending : IsAscending (λ a b. by_entry a b ≡ Less) found
  pub same : (k : ℕ) (q : List ℕ)
      → entry_at k q found ≡ (if (kind == k) && is_from from q
      && is_up_to (last_key found) q then object_at k q c.objects else None)

-- no two objects have the same key
abbrev pub HaveOwnKeys : List ObjectRow → Type 0
HaveOwnKeys = IsAscending (λ a b. is_object_at b.kind b.key a ≡ false)

-- the kind of each object, in ascending order; no two objects have the same key
pub record ListsKinds (c : Content) (found : List ℕ) : Type 0 where
  pub sorted : found ≡ map (λ (o : ObjectRow). o.kind) (sort_by by_key c.objects)
  pub counts : (kind : ℕ) → length (filter (λ k. k == kind) found)
      ≡ length (filter (λ (o : ObjectRow). o.kind == kind) c.objects)
  pub own : HaveOwnKeys c.objects

-- ---- before-images

-- a before-image without its rowid and step
pub record ImageEntry : Type 0 where
  pub kind : ℕ
  pub key : List ℕ
  pub bytes : Option (List ℕ)

abbrev pub image_entry : UndoRow → ImageEntry
image_entry u = record { kind = u.kind; key = u.key; bytes = u.bytes }

abbrev pub by_image : UndoRow → UndoRow → Ordering
by_image a b = ordering_then (nat_cmp a.kind b.kind) (slice_cmp nat_cmp a.key b.key)

abbrev pub is_image_entry_at : ℕ → List ℕ → ImageEntry → Bool
is_image_entry_at kind key e = (e.kind == kind) && bytes_eq e.key key

abbrev pub image_entry_at : ℕ → List ℕ → List ImageEntry → Option (Option (List ℕ))
image_entry_at kind key es = option_map (λ (e : ImageEntry). e.bytes)
    (find (is_image_entry_at kind key) es)

-- the before-image is put where there was none
abbrev pub PutsImage : ℕ → ℕ → List ℕ → Option (List ℕ) → Database → Database → Type 0
PutsImage at kind key before old new =
    (c : Content) → HoldsContent old c
    → (us : List UndoRow) × HoldsContent new (record c { undo = us })
    × (image_at at kind key c.undo ≡ None)
    × ((p k : ℕ) (q : List ℕ) → image_at p k q us
    ≡ (if is_same_image at kind key p k q then Some before else image_at p k q c.undo))

-- the before-images of the step are added where there were none, and each other one stays
pub record GainsImages (at : ℕ) (es : List ImageEntry) (before after : List UndoRow) : Type 0 where
  pub fresh : (k : ℕ) (q : List ℕ) → is_some (image_entry_at k q es) ≡ true
      → image_at at k q before ≡ None
  pub same : (p k : ℕ) (q : List ℕ) → image_at p k q after
      ≡ (if at == p then option_or (image_entry_at k q es) (image_at p k q before)
      else image_at p k q before)

abbrev pub PutsImages : ℕ → List ImageEntry → Database → Database → Type 0
PutsImages at es old new =
    (c : Content) → HoldsContent old c
    → (us : List UndoRow) × HoldsContent new (record c { undo = us })
    × GainsImages at es c.undo us

-- the step has no before-image, and each other step keeps its own
abbrev pub RemovesImages : ℕ → Database → Database → Type 0
RemovesImages at old new =
    (c : Content) → HoldsContent old c
    → (us : List UndoRow) × HoldsContent new (record c { undo = us })
    × ((p k : ℕ) (q : List ℕ)
    → image_at p k q us ≡ (if at == p then None else image_at p k q c.undo))

abbrev pub without_undo : Content → Content
without_undo c = record c { undo = [] }

-- the before-images of one step in the order of kinds and keys: each key once
pub record ListsImages (at : ℕ) (c : Content) (found : List ImageEntry) : Type 0 where
  pub sorted : found ≡ map image_entry
      (sort_by by_image (filter (λ (u : UndoRow). u.pos == at) c.undo))
  pub same : (k : ℕ) (q : List ℕ) → image_entry_at k q found ≡ image_at at k q c.undo

-- ---- receipts

-- the receipt is added after the others, if its number is greater than theirs
abbrev pub AddsReceipt : ReceiptRow → Database → Database → Type 0
AddsReceipt r old new = (c : Content) → HoldsContent old c
    → AllByRecursion (λ (x : ReceiptRow). x.receipt < r.receipt) c.receipts
    → HoldsContent new (record c { receipts = c.receipts ++ r ∷ [] })

abbrev pub is_receipt_of : List ℕ → List ℕ → ReceiptRow → Bool
is_receipt_of number digest r = bytes_eq r.number number && bytes_eq r.digest digest

-- the receipt of this number and digest, if there is one
abbrev pub receipt_of : List ℕ → List ℕ → List ReceiptRow → Option ReceiptRow
receipt_of number digest = find (is_receipt_of number digest)

-- the number of the last receipt, or 0 if there is none
abbrev pub last_number : List ReceiptRow → ℕ
last_number [] = 0
last_number (r ∷ []) = r.receipt
last_number (r ∷ s ∷ rs) = last_number (s ∷ rs)

abbrev pub is_of_verdict : ℕ → ReceiptRow → Bool
is_of_verdict verdict r = r.verdict == verdict

-- the rows that the receipts with a verdict name, in ascending order, with repeats; each of these
-- receipts names one
pub record ListsRows (verdict : ℕ) (c : Content) (found : List ℕ) : Type 0 where
  pub sorted : IsSorted nat_cmp found
  pub same : IsPermutation (map (λ (r : ReceiptRow). r.row)
      (filter (is_of_verdict verdict) c.receipts)) (map (λ n. Some n) found)

-- the digests of the receipts with a verdict, in the order of receipts, with repeats
abbrev pub verdict_digests : ℕ → List ReceiptRow → List (List ℕ)
verdict_digests verdict rs = map (λ (r : ReceiptRow). r.digest) (filter (is_of_verdict verdict) rs)

-- ---- held bodies

-- the body is added in the order of rows, where its row had none
abbrev pub HoldsBody : HeldRow → Database → Database → Type 0
HoldsBody h old new = (c : Content) → HoldsContent old c
    → HoldsContent new (record c { held = insert_by held_number c.held h })
    × (has_key held_number c.held (held_number h) ≡ false)

-- the body of this row, if it is held
abbrev pub body_of : ℕ → List HeldRow → Option (List ℕ)
body_of row hs = option_map (λ (h : HeldRow). h.body) (get_by held_number hs (pos row))

-- ---- the chain

-- the steps below this number stay, and the others are removed
abbrev pub steps_before : ℕ → Content → Content
steps_before at c = record c { steps = filter (λ (s : StepRow). ltb s.pos at) c.steps }

-- the step is added after the others, if its number is greater than theirs
abbrev pub AddsStep : StepRow → Database → Database → Type 0
AddsStep s old new = (c : Content) → HoldsContent old c
    → AllByRecursion (λ (x : StepRow). x.pos < s.pos) c.steps
    → HoldsContent new (record c { steps = c.steps ++ s ∷ [] })

-- ---- the manifest

-- a content with one more row of the manifest, in the order of indices
abbrev pub with_listed_row : ListedRow → Content → Content
with_listed_row r c = record c { listed = insert_by listed_number c.listed r }

-- the row is added in the order of indices
abbrev pub PutsListed : ListedRow → Database → Database → Type 0
PutsListed r = Becomes (with_listed_row r)
