-- The objects of a deposit are small: their rows are rows of its tables.
use Rattle.std.proofs.Common.{◌≡◌, ℕ, ◌≤◌, Bool, true, List, [], ◌∷◌, ◌++◌, length, map}
use Rattle.std.proofs.Common.{filter, sym, subst, arith, inl, inr}
use Rattle.std.specs.Prelude.{Ok, All, not, ◌&&◌, nat_lt, nat_le, ◌↔◌}
use Rattle.std.specs.List.{AllByRecursion, list_all, fold, zip}
use Rattle.std.specs.Str.{bytes_eq}
use Rattle.std.specs.FinMap.Entries.{put, by_order}
use Rattle.std.specs.declared.cmp.Ordering.{Ordering}
use Rattle.std.specs.declared.cmp.Ordering.TheVariants.{Less, Equal, Greater}
use Rattle.std.proofs.lemmas.Bool.{cases_Bool, and_parts}
use Rattle.std.proofs.lemmas.Bool.Decides.{nat_tests}
use Rattle.std.proofs.lemmas.List.{length-map}
use Rattle.std.proofs.lemmas.List.Elements.{All-from_recursion, recursion_from_All, All-append, All-tail, All-filter}
use Rattle.esc_bundle.specs.Bundle.{Named, limit, IsBundle}
use Rattle.esc_bundle.specs.Frame.{frame}
use Rattle.esc_bundle.specs.TestLaws.{bind_done}
use Rattle.esc_csv.specs.Records.{records_of}
use Rattle.esc_envelope.specs.EnvelopeValue.{EnvelopeValue, TableValue}
use Rattle.esc_envelope.specs.Envelope.{envelope_of}
use Rattle.esc_envelope.specs.Id.{is_id, is_id_byte}
use Rattle.esc_envelope.specs.DeclaredTables.{IsTable, is_table_name_byte}
use Rattle.esc_tables.specs.DepositOf.{all_rows}
use Rattle.esc_tables.specs.DepositValue.{DepositValue}
use Rattle.esc_tables.specs.KeyName.{KeyName, key_cmp, key_eq}
use Rattle.esc_tables.specs.ObjectValue.{RowValue, ObjectValue}
use Rattle.esc_tables.specs.Objects.{at_key, with_children, last_by_key, objects_of}
use Rattle.esc_tables.specs.Reading.{by_name, deposit_of_files, deposit_in, sections_deposit, reading}
use Rattle.esc_tables.specs.Reading.{most_rows, parent_rows, child_rows}
use Rattle.esc_tables.specs.SmallObject.{IsSmallRow, IsSmallObject}
use Rattle.esc_tables.specs.TableRow.{TableRow, in_table, bytes_named, table_rows, rows_in, row_as_cells, keyed}
use Rattle.esc_tables.proofs.ExactFacts.{Parts, parts_of, right_rows}
use Rattle.esc_tables.proofs.ObjectFacts.{putting}
use Rattle.esc_tables.proofs.OrderFacts.{by_name_all}
use Rattle.esc_tables.proofs.SizeFacts.{fewer_tables, same_length, few_contents}

-- ---- the rows of tables

-- of a row: its table is a declared one, and its texts are short
record IsOfTable (r : TableRow) : Type 0 where
  table : IsTable r.table
  texts : All (λ f. length f ≤ limit) r.fields

AreSmall : List Named → Type 0
AreSmall files = AllByRecursion (λ s. length s.bytes ≤ limit) files

-- no field of a text is longer than the text
abbrev pub FieldsFit : Type 0
FieldsFit = (text : List ℕ) → All (λ r. All (λ f. length f ≤ length text) r) (records_of text)

named_small : (files : List Named) (name : List ℕ) → AreSmall files → length (bytes_named files name) ≤ limit
unfolding AreSmall
named_small [] name small = omega arith
named_small (s ∷ ss) name small = elim (cases_Bool (bytes_eq s.name name))
    [ inl e ↦ rw e small.0 | inr e ↦ rw e (named_small ss name small.1) ]

rows_of_table : (t : TableValue) (n : ℕ) (records : List (List (List ℕ)))
    → IsTable t → n ≤ limit → AllByRecursion (λ r. All (λ f. length f ≤ n) r) records
    → AllByRecursion IsOfTable (map (in_table t) records)
rows_of_table t n [] table fits all = tt
rows_of_table t n (r ∷ rs) table fits all = (
  record {
    table = table;
    texts = λ k d below. omega (arith, fits, all.0 k d below);
  },
  rows_of_table t n rs table fits all.1,
)

rows_of_tables : FieldsFit → (files : List Named) (ts : List TableValue)
    → AreSmall files → All IsTable ts → AllByRecursion IsOfTable (rows_in files ts)
rows_of_tables fit files [] small all = tt
rows_of_tables fit files (t ∷ ts) small all =
    let text = bytes_named files t.file in
    let here = rows_of_table t (length text)
    (records_of text) (all 0 t (omega arith)) (named_small files t.file small)
    (recursion_from_All (λ r. All (λ f. length f ≤ length text) r) (records_of text) (fit text)) in
    let others = All-from_recursion IsOfTable (rows_in files ts)
    (rows_of_tables fit files ts small (All-tail IsTable t ts all)) in
    recursion_from_All IsOfTable (rows_in files (t ∷ ts)) (All-append IsOfTable (table_rows files t)
    (rows_in files ts) (All-from_recursion IsOfTable (table_rows files t) here) others)

-- ---- one row

abbrev IsSmallCell : List ℕ × List ℕ → Type 0
IsSmallCell c = (length c.0 ≤ 64) × (length c.1 ≤ limit)

-- of 1 to 64 bytes that pass a test
short_text : (name : List ℕ) (passed : Bool)
    → (nat_lt 0 (length name) && nat_le (length name) 64 && passed) ≡ true → length name ≤ 64
short_text name passed is =
    let sized = and_parts (nat_lt 0 (length name) && nat_le (length name) 64) passed is in
    let few = (and_parts (nat_lt 0 (length name)) (nat_le (length name) 64) sized.0).1 in
    grind (arith, nat_tests)

cells_small : (fields texts : List (List ℕ)) → list_all is_id fields ≡ true
    → All (λ f. length f ≤ limit) texts → AllByRecursion IsSmallCell (zip fields texts)
cells_small [] texts ids short = tt
cells_small (f ∷ fs) [] ids short = tt
cells_small (f ∷ fs) (t ∷ ts) ids short =
    let parts = and_parts (is_id f) (list_all is_id fs) ids in (
      (short_text f (list_all is_id_byte f) parts.0, short 0 t (omega arith)),
      cells_small fs ts parts.1 (All-tail (λ f. length f ≤ limit) t ts short),
    )

few_cells : (fields texts : List (List ℕ)) → length (zip fields texts) ≤ length fields
few_cells [] texts = omega arith
few_cells (f ∷ fs) [] = omega arith
few_cells (f ∷ fs) (t ∷ ts) = omega (arith, few_cells fs ts)

small_row : (r : TableRow) → IsOfTable r → IsSmallRow (row_as_cells r)
small_row r is = record {
  table = short_text r.table.name (list_all is_table_name_byte r.table.name) is.table.named;
  few = omega (arith, few_cells r.table.fields r.fields, is.table.few);
  cells = All-from_recursion IsSmallCell (zip r.table.fields r.fields)
      (cells_small r.table.fields r.fields is.table.formed is.texts);
}

abbrev HasSmallRow : KeyName × RowValue → Type 0
HasSmallRow p = IsSmallRow p.1

small_rows : (rows : List TableRow) → AllByRecursion IsOfTable rows → AllByRecursion HasSmallRow (map keyed rows)
small_rows [] all = tt
small_rows (r ∷ rs) all = (small_row r all.0, small_rows rs all.1)

-- ---- objects

put_small : (k : KeyName) (v : RowValue) (es : List (KeyName × RowValue))
    → IsSmallRow v → AllByRecursion HasSmallRow es → AllByRecursion HasSmallRow (put key_cmp k v es)
put_small k v [] small all = (small, tt)
put_small k v (e ∷ es) small all = by_place (key_cmp k e.0) (put_small k v es small all.1)
  where
    by_place : (r : Ordering) → AllByRecursion HasSmallRow (put key_cmp k v es) → AllByRecursion
        HasSmallRow (by_order r ((k, v) ∷ e ∷ es) ((e.0, v) ∷ es) (e ∷ put key_cmp k v es))
    by_place Less later = (small, all)
    by_place Equal later = (small, all.1)
    by_place Greater later = (all.0, later)

last_by_key_small : (ps es : List (KeyName × RowValue)) → AllByRecursion HasSmallRow ps
    → AllByRecursion HasSmallRow es → AllByRecursion HasSmallRow (fold putting es ps)
last_by_key_small [] es todo all = all
last_by_key_small (p ∷ ps) es todo all =
    last_by_key_small ps (put key_cmp p.0 p.1 es) todo.1 (put_small p.0 p.1 es todo.0 all)

children_small : (k : KeyName) (ps : List (KeyName × RowValue))
    → AllByRecursion HasSmallRow ps → AllByRecursion IsSmallRow (at_key k ps)
children_small k [] all = tt
children_small k (p ∷ ps) all = elim (cases_Bool (key_eq k p.0))
    [ inl e ↦ rw e (all.0, children_small k ps all.1) | inr e ↦ rw e (children_small k ps all.1) ]

few_children : (k : KeyName) (ps : List (KeyName × RowValue)) → length (at_key k ps) ≤ length ps
few_children k [] = omega arith
few_children k (p ∷ ps) = elim (cases_Bool (key_eq k p.0)) [
  | inl e ↦ let h = few_children k ps in
      rw e (omega (arith, h))
  | inr e ↦ let h = few_children k ps in rw e (omega (arith, h))
]

abbrev HasSmallObject : KeyName × ObjectValue → Type 0
HasSmallObject e = IsSmallObject e.1

objects_small : (children es : List (KeyName × RowValue))
    → AllByRecursion HasSmallRow children → length children ≤ most_rows → AllByRecursion HasSmallRow es
    → AllByRecursion HasSmallObject (map (λ e. (e.0, with_children (at_key e.0 children) e.1)) es)
objects_small children [] small few all = tt
objects_small children (e ∷ es) small few all =
    let rows = children_small e.0 children small in (
      record {
        parent = all.0;
        children = All-from_recursion IsSmallRow (at_key e.0 children) rows;
        few =
            omega (arith, few, few_children e.0 children);
      },
      objects_small children es small few all.1,
    )

-- ---- the deposit

small_in : FieldsFit → (files : List Named) (e : EnvelopeValue)
    → AreSmall files → All IsTable e.contents → length (all_rows files e) ≤ most_rows
    → AllByRecursion HasSmallObject (deposit_of_files files e).contents
unfolding deposit_of_files objects_of
small_in fit files e small tables few =
    let is_parent : TableValue → Bool = λ t. t.parent in
    let is_child : TableValue → Bool = λ t. not t.parent in
    let parents = small_rows (rows_in files (filter is_parent e.contents)) (rows_of_tables fit
    files (filter is_parent e.contents) small (All-filter is_parent IsTable e.contents tables)) in
    let children = small_rows (rows_in files (by_name (filter is_child e.contents)))
    (rows_of_tables fit files (by_name (filter is_child e.contents))
    small (by_name_all IsTable is_child e.contents tables)) in
    let sorted : length (rows_in files (by_name (filter is_child e.contents))) ≡ length
    (rows_in files (filter is_child e.contents)) = same_length files (filter is_child e.contents) in
    let all : length (child_rows files e)
    ≡ length (rows_in files (by_name (filter is_child e.contents))) =
    length-map (rows_in files (by_name (filter is_child e.contents))) keyed in
    let within : length (rows_in files (filter is_child e.contents)) ≤ most_rows =
    omega (arith, few, fewer_tables files is_child e.contents, few_contents files e) in
    objects_small (child_rows files e) (last_by_key (parent_rows files e)) children
    (omega (arith, all, sorted, within)) (last_by_key_small (parent_rows files e) [] parents tt)

small_parts : FieldsFit → (files : List Named) (e : EnvelopeValue) (d : DepositValue) → AreSmall files
    → All IsTable e.contents → Parts files e d → AllByRecursion HasSmallObject d.contents
small_parts fit files e d small tables parts =
    subst (λ (x : DepositValue). AllByRecursion HasSmallObject x.contents)
    (sym parts.2) (small_in fit files e small tables (right_rows (all_rows files e) parts.1).few)

-- the tables of what an envelope declares have their forms
abbrev pub TablesFit : Type 0
TablesFit = (text : List ℕ) (e : EnvelopeValue)
    → envelope_of text ≡ Ok e → All IsTable (e.contents ++ e.deletes)

front_all : {X : Type 0} (P : X → Type 0) (xs ys : List X) → AllByRecursion P (xs ++ ys) → AllByRecursion P xs
front_all P [] ys all = tt
front_all P (x ∷ xs) ys all = (all.0, front_all P xs ys all.1)

small_at : FieldsFit → TablesFit → (ss : List Named) (d : DepositValue)
    → AreSmall ss → sections_deposit ss ≡ Ok d → AllByRecursion HasSmallObject d.contents
unfolding sections_deposit AreSmall
small_at fit forms [] d small h = absurd cc
small_at fit forms (first ∷ files) d small h =
    let step = bind_done (envelope_of first.bytes) (deposit_in files) d h in
    let e = step.0 in
    let all = recursion_from_All IsTable (e.contents ++ e.deletes) (forms first.bytes e step.1) in
    small_parts fit files e d small.1 (All-from_recursion
    IsTable e.contents (front_all IsTable e.contents e.deletes all)) (parts_of files e d step.2)

-- the objects of a deposit are small
pub small_deposit : FieldsFit
    → TablesFit → ((body : List ℕ) (ss : List Named) → (frame body ≡ Ok ss) ↔ IsBundle body ss)
    → (body : List ℕ) (d : DepositValue) → reading body ≡ Ok d → All (λ e. IsSmallObject e.1) d.contents
unfolding reading AreSmall
small_deposit fit forms exact body d h =
    let step = bind_done (frame body) sections_deposit d h in
    let bundle = (exact body step.0).0 step.1 in
    All-from_recursion HasSmallObject d.contents (small_at fit forms
    step.0 d (recursion_from_All (λ s. length s.bytes ≤ limit) step.0 bundle.sections.small) step.2)
