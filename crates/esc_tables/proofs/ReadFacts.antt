-- Rows that are read piece by piece: row by row, and table by table.
use Rattle.std.proofs.Common.{◌≡◌, ◌∙◌, ℕ, ◌+◌, ◌<◌, ◌≤◌, Bool, true, false, cond, List}
use Rattle.std.proofs.Common.{[], ◌∷◌, ◌++◌, length, map, filter, take, get_or, refl, sym, ap, subst}
use Rattle.std.specs.List.{list_all, flat_map, fold}
use Rattle.std.proofs.lemmas.List.{append_assoc, append-nil, map-append, flat_map_more, take_all}
use Rattle.std.proofs.lemmas.List.Folds.{list_all-append, list_all_at}
use Rattle.std.proofs.lemmas.List.Sums.{fold-append}
use Rattle.esc_bundle.specs.Bundle.{Named}
use Rattle.esc_bundle.specs.declared.fault.Fault.{Fault}
use Rattle.esc_envelope.specs.EnvelopeValue.{TableValue}
use Rattle.esc_tables.specs.declared.survey.Survey.{Survey}
use Rattle.esc_tables.specs.TableRow.{TableRow, table_rows, rows_in, is_whole}
use Rattle.esc_tables.specs.Survey.{surveyed, is_right, AreSurveyed, IsFaultOf}
use Rattle.esc_tables.proofs.OrderFacts.{take_next}
use Rattle.esc_tables.proofs.SurveyFacts.{right_at_first, all_in_each}

-- no row is read
pub none_read : {X : Type 0} (of_row : TableRow → X) (s : Survey) (found : List X)
    → AreSurveyed of_row [] (s, found) (s, found)
none_read of_row s found = record { seen = refl; whole = refl; kept = λ right. sym (append-nil found) }

-- what is right after rows was right before them
pub was_right : {X : Type 0} {of_row : TableRow → X} {rows : List TableRow} {a b : Survey × List X}
    → AreSurveyed of_row rows a b → is_right b.0 ≡ true → is_right a.0 ≡ true
was_right {rows = rows} {a = a} read right = right_at_first a.0 rows (ap is_right (sym read.seen) ∙ right)

-- what was read into an empty list
pub read_alone : {X : Type 0} {of_row : TableRow → X} {rows : List TableRow} {a b : Survey × List X}
    → AreSurveyed of_row rows a b → a.1 ≡ [] → is_right b.0 ≡ true → b.1 ≡ map of_row rows
read_alone {X = X} {of_row = of_row} {rows = rows} read none right =
    read.kept right ∙ ap (λ (xs : List X). xs ++ map of_row rows) none

-- rows and then more
pub more_read : {X : Type 0}
    {of_row : TableRow → X} {rows more : List TableRow} {a b c : Survey × List X}
    → AreSurveyed of_row rows a b → AreSurveyed of_row more b c → AreSurveyed of_row (rows ++ more) a c
more_read {X = X} {of_row = of_row} {rows = rows} {more = more} {a = a} first then = record {
  seen = then.seen ∙ ap (λ (s : Survey). fold surveyed s more) first.seen
      ∙ sym (fold-append surveyed a.0 rows more);
  whole = rw (list_all-append is_whole rows more, first.whole, then.whole) refl;
  kept = λ right.
      then.kept right ∙ ap (λ (xs : List X). xs ++ map of_row more) (first.kept (was_right then right))
      ∙ append_assoc a.1 (map of_row rows) (map of_row more)
      ∙ ap (λ (xs : List X). a.1 ++ xs) (sym (map-append of_row rows more));
}

-- after whole rows, whether all are whole is whether the rest are
pub rest_whole : {X : Type 0}
    {of_row : TableRow → X} {rows : List TableRow} {a b : Survey × List X} (rest : List TableRow)
    → AreSurveyed of_row rows a b → list_all is_whole rest ≡ list_all is_whole (rows ++ rest)
rest_whole {rows = rows} rest read = rw (list_all-append is_whole rows rest, read.whole) refl

-- ---- what each of several things gives to read

next_piece : {A : Type 0} (rows_of : A → List TableRow) (xs : List A) (i : ℕ) (x : A) → i < length xs
    → x ≡ get_or xs i x → flat_map rows_of (take (i + 1) xs) ≡ flat_map rows_of (take i xs) ++ rows_of x
next_piece rows_of xs i x lt is =
    ap (flat_map rows_of) (take_next xs i x lt is) ∙ sym (flat_map_more rows_of [] (take i xs) x)

-- one more piece of rows is read
pub piece_read : {A X : Type 0} {of_row : TableRow → X} (rows_of : A → List TableRow)
    (xs : List A) (i : ℕ) (x : A) {a b c : Survey × List X} → i < length xs → x ≡ get_or xs i x
    → AreSurveyed of_row (flat_map rows_of (take i xs)) a b → AreSurveyed of_row (rows_of x) b c
    → AreSurveyed of_row (flat_map rows_of (take (i + 1) xs)) a c
piece_read rows_of xs i x lt is before step = rw (next_piece rows_of xs i x lt is) (more_read before step)

-- after the last piece all rows are read
pub all_read : {A X : Type 0} {of_row : TableRow → X} (rows_of : A → List TableRow)
    (xs : List A) (i : ℕ) {a b : Survey × List X} → length xs ≤ i
    → AreSurveyed of_row (flat_map rows_of (take i xs)) a b → AreSurveyed of_row (flat_map rows_of xs) a b
all_read {of_row = of_row} rows_of xs i {a = a} {b = b} end read =
    subst (λ ys. AreSurveyed of_row (flat_map rows_of ys) a b) (take_all i xs end) read

-- a fault of a piece is one of all rows
pub piece_refused : {A : Type 0} (rows_of : A → List TableRow)
    (xs : List A) (i : ℕ) (x : A) (fault : Fault) → i < length xs
    → x ≡ get_or xs i x → IsFaultOf (rows_of x) fault → IsFaultOf (flat_map rows_of xs) fault
piece_refused {A = A} rows_of xs i x fault lt is told = λ n same.
    let one = told n same in
    let there = ap (λ (y : A). list_all is_whole (rows_of y)) (sym is) ∙ one.1 in
    (one.0, all_in_each is_whole rows_of xs ∙ list_all_at (λ y. list_all is_whole (rows_of y)) xs i x lt there)

-- ---- of a parent table its rows, and of another none

-- the rows of a table, if it is a parent
abbrev pub if_parent : List Named → TableValue → List TableRow
if_parent files t = cond t.parent (table_rows files t) []

-- those of a parent are its rows
pub of_parent : (files : List Named) (t : TableValue) → t.parent ≡ true → if_parent files t ≡ table_rows files t
of_parent files t parent = ap (λ (b : Bool). cond b (table_rows files t) []) parent

-- those of another table are none
pub of_other : (files : List Named) (t : TableValue) → t.parent ≡ false → if_parent files t ≡ []
of_other files t other = ap (λ (b : Bool). cond b (table_rows files t) []) other

-- the rows of all parents
pub all_parents : (files : List Named) (ts : List TableValue)
    → flat_map (if_parent files) ts ≡ rows_in files (filter (λ t. t.parent) ts)
all_parents files [] = refl
all_parents files (t ∷ ts) = by_test t.parent (all_parents files ts)
  where
    by_test : (b : Bool) → flat_map (if_parent files) ts ≡ rows_in files (filter (λ t. t.parent) ts)
        → cond b (table_rows files t) [] ++ flat_map (if_parent files) ts
        ≡ rows_in files (cond b (t ∷ filter (λ t. t.parent) ts) (filter (λ t. t.parent) ts))
    by_test true later = ap (λ (rows : List TableRow). table_rows files t ++ rows) later
    by_test false later = later
