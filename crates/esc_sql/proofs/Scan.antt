-- What a SELECT over one table gives, and what its WHERE tests.
use Rattle.esc_sql.proofs.Common.{◌≡◌, ℕ, pos, true, false, List, [], ◌∷◌, refl, arith, filter}
use Rattle.esc_sql.proofs.Common.{◌≤◌, map, length, None, ap, subst, ◌∙◌, ℤ, Bool, not, cond, ◌&&◌}
use Rattle.esc_sql.proofs.Common.{Some, IsPermutation, ◌==◌, bytes_eq, ltb, IsSorted, cases_Bool, inl}
use Rattle.esc_sql.proofs.Common.{inr}
use Rattle.esc_sql.proofs.Common.{IsPermutation-map, is_eq-slice_cmp, slice_cmp, nat_cmp, Binary, Query}
use Rattle.esc_sql.proofs.Common.{Output, output_cmp, page, output, Term, lit, IsAscending, Trees}
use Rattle.esc_sql.proofs.Common.{map-map, map_same, filter-map, ascending-map, Compare, Eq, Ge}
use Rattle.esc_sql.proofs.Common.{ToNumeric, value_cmp-Int, value_cmp-Blob, Row, Key, Int, Blob, Text}
use Rattle.esc_sql.proofs.Common.{flat_map, is_eq, int_eq, Less}
use Rattle.std.proofs.Common.{negsuc}
use Rattle.std.specs.List.{list_all}
use Rattle.std.specs.Ordering.{is_ge}
use Rattle.std.proofs.lemmas.List.Sorted.{IsPermutation-trans}
use Rattle.sqlite_value.proofs.OrderLemmas.{value_cmp-Text}
use Rattle.sqlite.specs.Term.{holds}
use Rattle.sqlite.specs.Ops.{unary, binary, is_true, from_truth}
use Rattle.sqlite.specs.Query.{inner, end, IsAnswer, matches}
use Rattle.sqlite_sql.proofs.QueryLemmas.{output_cmp_total}
use Rattle.sqlite_keyed.proofs.SortLemmas.{sorted_unique}

-- a query over one table; a limit below 0 is none
abbrev pub scan : ℕ → List Term → List Term → List (Term × Key) → ℤ → Query
scan tree tests project order limit = record {
  from = inner tree end;
  filter = tests;
  group = None;
  project = project;
  distinct = false;
  collations = [];
  order = order;
  limit = lit (Int limit);
  offset = lit (Int (pos 0));
}

-- the limit of a query that has none
abbrev pub no_limit : ℤ
no_limit = negsuc 0

-- the row passes each term of WHERE
abbrev pub is_match : List Term → Row → Row → Bool
is_match tests params row = list_all (holds (params ∷ row ∷ [])) tests

one_each : {X Y : Type 0} (p : X → Bool) (f : X → Y) (xs : List X)
    → flat_map (λ x. cond (p x) (f x ∷ []) []) xs ≡ map f (filter p xs)
one_each p f [] = refl
one_each p f (x ∷ xs) = elim (cases_Bool (p x))
    [ inl is ↦ rw (is, one_each p f xs) refl | inr other ↦ rw (other, one_each p f xs) refl ]

-- The table holds typed rows, and `out` is what a row is sorted by and what it shows.
module _ {X : Type 0} (out : X → Output)
    (tree : ℕ) (tests project : List Term) (order : List (Term × Key)) (limit : ℤ) (params : Row) where
  abbrev query : Query
  query = scan tree tests project order limit

  -- the order of the outputs of the rows that passed, and what is shown of them
  pub record IsScanned (xs : List X) (rows : List Row) : Type 0 where
    pub ordered : List Output
    pub same : IsPermutation (map out xs) ordered
    pub sorted : IsSorted (output_cmp query) ordered
    pub shown : rows ≡ page query params (map (λ (o : Output). o.1) ordered)

  pub scanned : (stored : X → Row) → ((x : X) → output query (params ∷ stored x ∷ []) ≡ out x)
      → (db : Trees) (all xs : List X) (rows : List Row)
      → db tree ≡ map stored all → filter (λ x. is_match tests params (stored x)) all ≡ xs
      → IsAnswer query db params rows → IsScanned xs rows
  scanned stored showing db all xs rows holds picked a =
      let found : matches db tests (inner tree end) (params ∷ [])
      ≡ map (λ r. params ∷ r ∷ []) (filter (is_match tests params) (db tree)) =
      one_each (is_match tests params) (λ r. params ∷ r ∷ []) (db tree) in
      let chosen : filter (is_match tests params) (db tree) ≡ map stored xs =
      ap (filter (is_match tests params)) holds
      ∙ filter-map (is_match tests params) stored all ∙ ap (map stored) picked in
      let all : a.kept ≡ map out xs =
      a.distinct ∙ ap (map (output query)) (a.grouped ∙ found ∙ ap (map (λ r. params ∷ r ∷ [])) chosen)
      ∙ ap (map (output query)) (map-map (λ r. params ∷ r ∷ []) stored xs)
      ∙ map-map (output query) (λ x. params ∷ stored x ∷ []) xs ∙ map_same _ out showing xs in
      record {
        ordered = a.ordered;
        same = subst (λ k. IsPermutation k a.ordered) all a.same;
        sorted = a.sorted;
        shown = a.shown;
      }

  -- an order in which the rows rise is theirs
  pub in_order : (xs ys : List X) (rows : List Row)
      → IsPermutation ys xs → IsAscending (λ a b. output_cmp query (out a) (out b) ≡ Less) ys
      → IsScanned xs rows → rows ≡ page query params (map (λ x. (out x).1) ys)
  in_order xs ys rows turned up s =
      let one = sorted_unique (output_cmp query) (output_cmp_total query)
      (map out ys) s.ordered (ascending-map (λ a b. output_cmp query a b ≡ Less) out ys up)
      (IsPermutation-trans _ _ _ (IsPermutation-map out ys xs turned) s.same) s.sorted in
      s.shown ∙ ap (λ os. page query params (map (λ (o : Output). o.1) os)) one
      ∙ ap (page query params) (map-map (λ (o : Output). o.1) out ys)

-- at most one row is in any order
pub short_rises : {X : Type 0} (R : X → X → Type 0) (xs : List X) → length xs ≤ 1 → IsAscending R xs
short_rises R [] few = tt
short_rises R (x ∷ []) few = (tt, tt)
short_rises R (x ∷ y ∷ xs) few = absurd (omega arith)

-- ---- the tests

-- a truth value is as true as its Bool
pub true_back : (b : Bool) → is_true (from_truth (Some b)) ≡ b
true_back b = grind arith

-- texts are compared byte for byte
pub same_text : (a b : List ℕ) → is_true (binary (Compare Eq Binary) (Text a) (Text b)) ≡ bytes_eq a b
unfolding binary
same_text a b = true_back _ ∙ ap is_eq (value_cmp-Text a b) ∙ is_eq-slice_cmp a b

-- blobs are compared byte for byte
pub same_blob : (a b : List ℕ) → is_true (binary (Compare Eq Binary) (Blob a) (Blob b)) ≡ bytes_eq a b
unfolding binary
same_blob a b = true_back _ ∙ ap is_eq (value_cmp-Blob a b) ∙ is_eq-slice_cmp a b

-- a blob is not below another in the order of bytes
pub not_below : (a b : List ℕ)
    → is_true (binary (Compare Ge Binary) (Blob a) (Blob b)) ≡ is_ge (slice_cmp nat_cmp a b)
unfolding binary
not_below a b = true_back _ ∙ ap is_ge (value_cmp-Blob a b)

-- integers are compared as numbers
pub same_int : (a b : ℤ) → is_true (binary (Compare Eq Binary) (Int a) (Int b)) ≡ int_eq a b
unfolding binary
same_int a b = true_back _ ∙ ap is_eq (value_cmp-Int a b)

-- natural numbers are compared as such
pub same_number : (a b : ℕ) → is_true (binary (Compare Eq Binary) (Int (pos a)) (Int (pos b))) ≡ (a == b)
same_number a b = same_int (pos a) (pos b) ∙ grind arith

-- a number is not below another
pub not_below_number : (a b : ℕ)
    → is_true (binary (Compare Ge Binary) (Int (pos a)) (Int (pos b))) ≡ not (ltb a b)
unfolding binary
not_below_number a b = true_back _ ∙ ap is_ge (value_cmp-Int (pos a) (pos b)) ∙ grind arith

-- a number stays as it is where it is compared with a column of numbers
pub same_number_of : (a b : ℕ)
    → is_true (binary (Compare Eq Binary) (Int (pos a)) (unary ToNumeric (Int (pos b)))) ≡ (a == b)
unfolding unary
same_number_of a b = same_number a b

-- a further test that always passes
pub and_true : (b : Bool) → (b && true) ≡ b
and_true b = grind arith
