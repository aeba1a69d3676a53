-- A record is read as its object, and no record begins another.
use Rattle.std.proofs.Common.{◌≡◌, ◌≢◌, ℕ, ◌^◌, ◌<◌, Bool, true, List, [], ◌∷◌, ◌++◌}
use Rattle.std.proofs.Common.{length, Option, None, Some, refl, sym, ap, subst, ◌∙◌, arith}
use Rattle.std.proofs.Common.{append_assoc, inl, inr}
use Rattle.std.specs.Prelude.{nat_lt, ◌&&◌, Result, Ok, Err, IfOk, IfSome, IfNone}
use Rattle.esc_bundle.specs.declared.fault.NoMemory.{NoMemory}
use Rattle.std.specs.List.{AllByRecursion, list_all, flat_map}
use Rattle.std.specs.Str.{is_utf8}
use Rattle.std.proofs.lemmas.Bool.{cases_Bool, and_parts}
use Rattle.std.proofs.lemmas.Bool.Decides.{nat_tests}
use Rattle.std.proofs.lemmas.List.{append-nil}
use Rattle.std.proofs.lemmas.Str.{is_utf8-from_IsUtf8}
use Rattle.std.proofs.lemmas.Option.{same_Some}
use Rattle.esc_envelope.specs.Sequences.{◌>>=◌}
use Rattle.esc_envelope.specs.SequenceLaws.{bound}
use Rattle.esc_tables.specs.ObjectValue.{RowValue, ObjectValue}
use Rattle.esc_record.specs.Record.{number_bytes, row_bytes, object_bytes, object_rows, is_small}
use Rattle.esc_record.specs.Record.{is_small_cell, is_small_row, is_small_object, record_of}
use Rattle.esc_record.specs.Record.{IsCellOfTexts, IsRowOfTexts, IsOfTexts}
use Rattle.esc_record.specs.Reading.{cut, number_in_front, many, row_in_front, of_rows, object_of_record}
use Rattle.esc_record.proofs.Pieces.{AreBytes, IsGoodCell, IsGoodRow, number_again, number_takes}
use Rattle.esc_record.proofs.Pieces.{many_again, many_takes, row_again, row_takes}

-- ---- which rows are good

record Passes (is_text : List ℕ → Bool) (r : RowValue) : Type 0 where
  table : is_text r.table ≡ true
  cells : AllByRecursion (λ (c : List ℕ × List ℕ). (is_text c.0 ≡ true) × (is_text c.1 ≡ true)) r.cells

good_cells : (is_text : List ℕ → Bool) (cs : List (List ℕ × List ℕ)) → list_all is_small_cell cs ≡ true
    → AllByRecursion (λ (c : List ℕ × List ℕ). (is_text c.0 ≡ true) × (is_text c.1 ≡ true)) cs
    → AllByRecursion (IsGoodCell is_text) cs
good_cells is_text [] small pass = tt
good_cells is_text (c ∷ cs) small pass =
    let a = and_parts (is_small_cell c) (list_all is_small_cell cs) small in
    let b = and_parts (is_small (length c.0)) (is_small (length c.1)) a.0 in
    let field : length c.0 < 2 ^ 32 = let h = b.0 in grind (arith, nat_tests) in
    let value : length c.1 < 2 ^ 32 = let h = b.1 in grind (arith, nat_tests) in
    (((field, pass.0.0), (value, pass.0.1)), good_cells is_text cs a.1 pass.1)

good_rows : (is_text : List ℕ → Bool) (rs : List RowValue) → list_all is_small_row rs ≡ true
    → AllByRecursion (Passes is_text) rs → AllByRecursion (IsGoodRow is_text) rs
good_rows is_text [] small pass = tt
good_rows is_text (r ∷ rs) small pass =
    let a = and_parts (is_small_row r) (list_all is_small_row rs) small in
    let b = and_parts (is_small (length r.table) && is_small (length r.cells)) (list_all is_small_cell r.cells) a.0 in
    let d = and_parts (is_small (length r.table)) (is_small (length r.cells)) b.0 in
    let table : length r.table < 2 ^ 32 = let h = d.0 in grind (arith, nat_tests) in
    let few : length r.cells < 2 ^ 32 = let h = d.1 in grind (arith, nat_tests) in (
      record {
        table = (table, pass.0.table);
        few = few;
        cells = good_cells is_text r.cells b.1 pass.0.cells;
      },
      good_rows is_text rs a.1 pass.1,
    )

any_text : List ℕ → Bool
any_text t = true

all_cells : (cs : List (List ℕ × List ℕ))
    → AllByRecursion (λ (c : List ℕ × List ℕ). (any_text c.0 ≡ true) × (any_text c.1 ≡ true)) cs
unfolding any_text
all_cells [] = tt
all_cells (c ∷ cs) = ((refl, refl), all_cells cs)

all_pass : (rs : List RowValue) → AllByRecursion (Passes any_text) rs
unfolding any_text
all_pass [] = tt
all_pass (r ∷ rs) = (record { table = refl; cells = all_cells r.cells }, all_pass rs)

utf8_cells : (cs : List (List ℕ × List ℕ)) → AllByRecursion IsCellOfTexts cs
    → AllByRecursion (λ (c : List ℕ × List ℕ). (is_utf8 c.0 ≡ true) × (is_utf8 c.1 ≡ true)) cs
utf8_cells [] all = tt
utf8_cells (c ∷ cs) all = ((is_utf8-from_IsUtf8 c.0 all.0.0, is_utf8-from_IsUtf8 c.1 all.0.1), utf8_cells cs all.1)

utf8_pass : (rs : List RowValue) → AllByRecursion IsRowOfTexts rs → AllByRecursion (Passes is_utf8) rs
utf8_pass [] all = tt
utf8_pass (r ∷ rs) all = (
  record {
    table = is_utf8-from_IsUtf8 r.table all.0.table;
    cells = utf8_cells r.cells all.0.cells;
  },
  utf8_pass rs all.1,
)

small_cells : (is_text : List ℕ → Bool) (cs : List (List ℕ × List ℕ))
    → AllByRecursion (IsGoodCell is_text) cs → list_all is_small_cell cs ≡ true
small_cells is_text [] all = refl
small_cells is_text (c ∷ cs) all =
    let field : is_small (length c.0) ≡ true = let h = all.0.0.0 in grind (arith, nat_tests) in
    let value : is_small (length c.1) ≡ true = let h = all.0.1.0 in grind (arith, nat_tests) in
    rw (field, value, small_cells is_text cs all.1) refl

small_rows : (is_text : List ℕ → Bool) (rs : List RowValue)
    → AllByRecursion (IsGoodRow is_text) rs → list_all is_small_row rs ≡ true
small_rows is_text [] all = refl
small_rows is_text (r ∷ rs) all =
    let table : is_small (length r.table) ≡ true = let h = all.0.table.0 in grind (arith, nat_tests) in
    let few : is_small (length r.cells) ≡ true = let h = all.0.few in grind (arith, nat_tests) in
    rw (table, few, small_cells is_text r.cells all.0.cells, small_rows is_text rs all.1) refl

-- ---- the rows of a record

rows_at : (List ℕ → Bool) → List ℕ → Option (List RowValue × List ℕ)
rows_at is_text bytes = number_in_front bytes >>= (λ n. many (row_in_front is_text) n.0 n.1)

rows_again : (is_text : List ℕ → Bool) (o : ObjectValue) (more : List ℕ)
    → is_small_object o ≡ true → AllByRecursion (Passes is_text) (object_rows o)
    → rows_at is_text (object_bytes o ++ more) ≡ Some (object_rows o, more)
unfolding rows_at
rows_again is_text o more small pass =
    let a = and_parts (is_small (length (object_rows o))) (list_all is_small_row (object_rows o)) small in
    let few : length (object_rows o) < 2 ^ 32 = let h = a.0 in grind (arith, nat_tests) in
    let rows = flat_map row_bytes (object_rows o) in
    let e : object_bytes o ++ more ≡ number_bytes (length (object_rows o)) ++ (rows ++ more) =
    append_assoc (number_bytes (length (object_rows o))) rows more in
    ap (λ t. number_in_front t >>= (λ n. many (row_in_front is_text) n.0 n.1)) e
    ∙ rw (number_again (length (object_rows o)) (rows ++ more) few)
    (many_again (row_in_front is_text) row_bytes (IsGoodRow is_text)
    (row_again is_text) (object_rows o) more (good_rows is_text (object_rows o) a.1 pass))

record IsRecord (o : ObjectValue) (bytes : List ℕ) : Type 0 where
  small : is_small_object o ≡ true
  is : object_bytes o ≡ bytes

record_is : (o : ObjectValue) (bytes : List ℕ) → record_of o ≡ Some bytes → IsRecord o bytes
unfolding record_of
record_is o bytes h = elim (cases_Bool (is_small_object o)) [
  | inl small ↦ record { small = small; is = same_Some _ _ (rw small at h) }
  | inr large ↦ let none : None ≡ Some bytes = rw large at h in absurd cc
]

object_is : (o p : ObjectValue) → object_rows o ≡ object_rows p → o ≡ p
object_is o p h = let (a, b) : (o.parent ≡ p.parent) × (o.children ≡ p.children) = (cc, cc) in rw (a, b) refl

-- no record begins another
pub alone : (o p : ObjectValue) (bytes more : List ℕ)
    → record_of o ≡ Some bytes → record_of p ≡ Some (bytes ++ more) → (more ≡ []) × (o ≡ p)
alone o p bytes more ho hp =
    let a = record_is o bytes ho in
    let b = record_is p (bytes ++ more) hp in
    let first : rows_at any_text (bytes ++ more) ≡ Some (object_rows o, more) =
    ap (λ t. rows_at any_text (t ++ more)) (sym a.is)
    ∙ rows_again any_text o more a.small (all_pass (object_rows o)) in
    let second : rows_at any_text (bytes ++ more) ≡ Some (object_rows p, []) =
    ap (rows_at any_text) (sym b.is ∙ sym (append-nil (object_bytes p)))
    ∙ rows_again any_text p [] b.small (all_pass (object_rows p)) in
    let both : List RowValue × List ℕ = (object_rows o, more) in
    let other : List RowValue × List ℕ = (object_rows p, []) in
    let e : both ≡ other = same_Some _ _ (sym first ∙ second) in
    (ap (λ q. q.1) e, object_is o p (ap (λ q. q.0) e))

-- the record of an object of texts is read as that object
pub object_again : (o : ObjectValue) (bytes : List ℕ)
    → IsOfTexts o → record_of o ≡ Some bytes → object_of_record is_utf8 bytes ≡ Some o
unfolding object_of_record rows_at
object_again o bytes texts h =
    let a = record_is o bytes h in
    let rows : List RowValue × List ℕ = (object_rows o, []) in
    let all : rows_at is_utf8 bytes ≡ Some rows =
    ap (rows_at is_utf8) (sym a.is ∙ sym (append-nil (object_bytes o)))
    ∙ rows_again is_utf8 o [] a.small (utf8_pass (object_rows o) texts) in
    let b = bound (number_in_front bytes) (λ n. many (row_in_front is_utf8) n.0 n.1) rows all in
    rw (b.was, b.goes) refl

nothing_left : (r : List ℕ) (p : List ℕ × List ℕ) → cut (length r) [] ≡ Some p → r ≡ []
nothing_left [] p h = refl
nothing_left (x ∷ r) p h =
    let short : nat_lt (length {A = ℕ} []) (length (x ∷ r)) ≡ true = grind (arith, nat_tests) in
    let none : None ≡ Some p = rw short at h in
    absurd cc

of_rows_is : (rows : List RowValue) (o : ObjectValue) → of_rows is_utf8 rows ≡ Some o → rows ≡ object_rows o
of_rows_is [] o h = absurd cc
of_rows_is (r ∷ rs) o h = ap object_rows (same_Some _ _ h)

-- what is read as an object is its record
pub object_takes : (bytes : List ℕ) (o : ObjectValue)
    → AreBytes bytes → object_of_record is_utf8 bytes ≡ Some o → record_of o ≡ Some bytes
unfolding object_of_record record_of
object_takes bytes o are h =
    let a = bound (number_in_front bytes) (λ n. many (row_in_front is_utf8)
    n.0 n.1 >>= (λ rows. cut (length rows.1) [] >>= (λ ends. of_rows is_utf8 rows.0))) o h in
    let b = bound (many (row_in_front is_utf8) a.it.0 a.it.1)
    (λ rows. cut (length rows.1) [] >>= (λ ends. of_rows is_utf8 rows.0)) o a.goes in
    let d = bound (cut (length b.it.1) []) (λ ends. of_rows is_utf8 b.it.0) o b.goes in
    let n = number_takes bytes a.it are a.was in
    let rows = many_takes (row_in_front is_utf8) row_bytes (IsGoodRow is_utf8)
    (row_takes is_utf8) a.it.0 a.it.1 b.it n.rest b.was in
    let ended : b.it.1 ≡ [] = nothing_left b.it.1 d.it d.was in
    let are_rows : b.it.0 ≡ object_rows o = of_rows_is b.it.0 o d.goes in
    let size : a.it.0 ≡ length (object_rows o) = sym rows.size ∙ ap length are_rows in
    let good : AllByRecursion (IsGoodRow is_utf8) (object_rows o) =
    subst (AllByRecursion (IsGoodRow is_utf8)) are_rows rows.good in
    let few : is_small (length (object_rows o)) ≡ true = let k = n.good in let s = size in grind (arith, nat_tests) in
    let is : bytes ≡ object_bytes o = n.is ∙ (ap (λ m. number_bytes m ++ a.it.1) size ∙ ap
    (λ t. number_bytes (length (object_rows o)) ++ t) (rows.is ∙ (ap (λ t. flat_map row_bytes b.it.0
    ++ t) ended ∙ (append-nil (flat_map row_bytes b.it.0) ∙ ap (flat_map row_bytes) are_rows)))) in
    let small : is_small_object o ≡ true = rw (few, small_rows is_utf8 (object_rows o) good) refl in
    rw small (ap Some (sym is))

-- an object that is read has the record
pub found_is : (r : Result (Option ObjectValue) NoMemory) (bytes : List ℕ)
    → AreBytes bytes → IfOk r (λ found. found ≡ object_of_record is_utf8 bytes)
    → IfOk r (λ found. IfSome found (λ o. record_of o ≡ Some bytes))
found_is (Ok None) bytes are h = tt
found_is (Ok (Some o)) bytes are h = object_takes bytes o are (sym h)
found_is (Err e) bytes are h = tt

-- where no object is read none has the record
pub none_is : (r : Result (Option ObjectValue) NoMemory) (bytes : List ℕ)
    → IfOk r (λ found. found ≡ object_of_record is_utf8 bytes)
    → IfOk r (λ found. IfNone found ((o : ObjectValue) → IsOfTexts o → record_of o ≢ Some bytes))
none_is (Ok None) bytes h = λ o texts is. let some : None ≡ Some o = h ∙ object_again o bytes texts is in absurd cc
none_is (Ok (Some o)) bytes h = tt
none_is (Err e) bytes h = tt
