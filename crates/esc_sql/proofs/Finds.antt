-- What is found in a list of rows, after an edit of it and in another order of it.
use Rattle.esc_sql.proofs.Common.{◌≡◌, ℕ, true, false, List, [], ◌∷◌, refl, arith, filter, ◌≤◌}
use Rattle.esc_sql.proofs.Common.{map, length, None, sym, ap, subst, ◌∙◌, Bool, not, cond, ◌&&◌}
use Rattle.esc_sql.proofs.Common.{slice_get, option_map, true≢false, find, IsPermutation}
use Rattle.esc_sql.proofs.Common.{length_permutation}
use Rattle.esc_sql.proofs.Common.{AllByRecursion, option_to_list, Database, Trees, slice_get-filter}
use Rattle.esc_sql.proofs.Common.{filter_same, all_weaker, IsPermutation-filter, delete_where, AreApart}
use Rattle.esc_sql.proofs.Common.{agree, Row, HoldsContent, rows_of, Content, store_schema, rising}
use Rattle.esc_sql.proofs.Common.{StoreTable, tree_of, stored_row, RowOf, schema_table, row_number}
use Rattle.esc_sql.proofs.Common.{ascending-filter, recursion_from_All, and_parts, and_equiv, on_equiv}
use Rattle.sqlite.proofs.Callers.{one_permutation}
use Rattle.sqlite_keyed.proofs.ListLemmas.{all_unmap}
use Rattle.sqlite_keyed.proofs.RuleLemmas.{apart_from_each}
use Rattle.sqlite_schema.specs.Rules.{passes, clashes}
use Rattle.sqlite_schema.specs.declared.schema.Constraint.TheVariants.{Unique}
use Rattle.esc_sql.proofs.Forms.{uncounted, passes_unique}
use Rattle.std.proofs.lemmas.List.{nil_from_length}
use Rattle.std.specs.Cmp.{IsEquivalence}
use Rattle.std.proofs.lemmas.List.Elements.{filter_passes}
use Rattle.sqlite_tied.proofs.RuleLemmas.{clash_is}

-- tests that agree find the same
pub find_same : {X : Type 0} (p q : X → Bool)
    → ((x : X) → p x ≡ q x) → (xs : List X) → find p xs ≡ find q xs
find_same p q same xs = sym (slice_get-filter p xs)
    ∙ ap (λ ys. slice_get ys 0) (filter_same p q same xs) ∙ slice_get-filter q xs

-- what is found in a mapped list is what is found before the map
pub found-map : {X Y V : Type 0} (out : Y → V) (p : Y → Bool) (f : X → Y) (xs : List X)
    → option_map out (find p (map f xs)) ≡ option_map (λ x. out (f x)) (find (λ x. p (f x)) xs)
found-map out p f [] = refl
found-map out p f (x ∷ xs) = grind (arith, found-map out p f xs)

-- two filters are one
pub filter-and : {X : Type 0} (p q : X → Bool) (xs : List X)
    → filter p (filter q xs) ≡ filter (λ x. q x && p x) xs
filter-and p q [] = refl
filter-and p q (x ∷ xs) = grind (arith, filter-and p q xs)

-- what is found in a filtered list passes both tests
pub find-filter : {X : Type 0} (p q : X → Bool) (xs : List X) → find p (filter q xs) ≡ find (λ x. q x && p x) xs
find-filter p q [] = refl
find-filter p q (x ∷ xs) = grind (arith, find-filter p q xs)

-- of rows of which one at most passes, the one
pub alone : {X : Type 0} (p : X → Bool) (xs : List X)
    → length (filter p xs) ≤ 1 → filter p xs ≡ option_to_list (find p xs)
alone p [] few = refl
alone p (x ∷ xs) few = grind (arith, few, nil_from_length (filter p xs), alone p xs)

-- an order of one row at most
short : {X : Type 0} (xs ys : List X) → length xs ≤ 1 → IsPermutation xs ys → ys ≡ xs
short [] ys few same = nil_from_length ys (length_permutation [] ys same)
short (x ∷ []) ys few same = one_permutation x ys same
short (x ∷ y ∷ xs) ys few same = absurd (omega arith)

-- where one row at most passes, each order of the rows finds it
pub find-permutation : {X : Type 0} (p : X → Bool) (xs ys : List X)
    → length (filter p xs) ≤ 1 → IsPermutation xs ys → find p ys ≡ find p xs
find-permutation p xs ys few same = sym (slice_get-filter p ys) ∙ ap (λ l. slice_get l 0)
    (short (filter p xs) (filter p ys) few (IsPermutation-filter p xs ys same)) ∙ slice_get-filter p xs

-- ---- after an edit of the rows that pass `d`, which are all of those at a key or none

module _ {X V : Type 0} (out : X → V)
    (d p : X → Bool) (e : Bool) (is : (x : X) → p x ≡ true → d x ≡ e) where
  pub found-and : (xs : List X)
      → option_map out (find (λ x. d x && p x) xs) ≡ cond e (option_map out (find p xs)) None
  found-and [] = grind arith
  found-and (x ∷ xs) = grind (arith, is x, found-and xs)

  pub found-delete : (xs : List X)
      → option_map out (find p (delete_where d xs)) ≡ cond e None (option_map out (find p xs))
  found-delete [] = grind arith
  found-delete (x ∷ xs) = grind (arith, is x, found-delete xs)

-- ---- rows that a UNIQUE index keeps apart

-- two keys are equal in both parts
abbrev pub both_eq : {A B : Type 0} → (A → A → Bool) → (B → B → Bool) → A × B → A × B → Bool
both_eq E F a b = E a.0 b.0 && F a.1 b.1

-- pairs are compared by an equivalence where both parts are
pub both_equiv : {A B : Type 0} {E : A → A → Bool} {F : B → B → Bool}
    → IsEquivalence E → IsEquivalence F → IsEquivalence (both_eq E F)
both_equiv {A} {B} e f = and_equiv (on_equiv (λ (k : A × B). k.0) e) (on_equiv (λ (k : A × B). k.1) f)

-- the rows of a table are apart by a key
pub record IsKey (t : StoreTable) {K : Type 0} (key : RowOf t → K) (eq : K → K → Bool) : Type 0 where
  pub laws : IsEquivalence eq
  pub apart : (db : Database) (c : Content)
      → HoldsContent db c → AreApart (λ a b. eq (key a) (key b)) (rows_of c t)

-- as those of a table that has one UNIQUE key
pub unique_key : (t : StoreTable)
    (places : List ℕ) {K : Type 0} (key : RowOf t → K) (eq : K → K → Bool) → IsEquivalence eq
    → ((a b : RowOf t) → agree rising places (stored_row t a) places (stored_row t b) ≡ eq (key a) (key b))
    → ((trees : Trees) (row : Row) → passes Unique store_schema trees (uncounted (schema_table t)) row
    ≡ true → not (clashes rising places (trees (tree_of t)) row) ≡ true)
    → IsKey t key eq
unique_key t places key eq laws same keeps = record {
  laws = laws;
  apart = λ db c h.
      let clash : RowOf t → RowOf t → Bool = λ a b. eq (key a) (key b) in
      let xs = rows_of c t in
      let Free : Row → Type 0 = λ row. not (clashes rising places (db.trees (tree_of t)) row) ≡ true in
      let each = all_weaker _ Free (keeps db.trees) (db.trees (tree_of t)) (passes_unique t db.trees h.store.sound) in
      apart_from_each clash (row_number t)
      (λ x. not (clashes rising places (db.trees (tree_of t)) (stored_row t x))) xs
      (λ x free. sym (clash_is db.trees (tree_of t) (stored_row t)
      (row_number t) xs (h.store.rows.tables t) (λ y. refl) places clash same x) ∙ free)
      (h.store.ordered t) (all_unmap Free (stored_row t) xs (subst (AllByRecursion Free) (h.store.rows.tables t) each));
}

module _ {t : StoreTable} {K : Type 0} {key : RowOf t → K} {eq : K → K → Bool} (it : IsKey t key eq) where
  -- what a test says of a row at another key
  pub key_test : (k q a : K) → eq a q ≡ true → eq a k ≡ eq k q
  key_test k q a here = it.laws.congr a q k here ∙ it.laws.symm q k

  -- of the rows that pass, one at most is at a key
  pub few : (p : RowOf t → Bool) (k : K) (db : Database) (c : Content)
      → HoldsContent db c → length (filter (λ x. p x && eq (key x) k) (rows_of c t)) ≤ 1
  few p k db c h = go (filter test (rows_of c t)) (ascending-filter (λ a b. eq (key a) (key b) ≡ false)
      test (rows_of c t) (it.apart db c h)) (recursion_from_All _ _ (filter_passes test (rows_of c t)))
    where
      test : RowOf t → Bool
      test x = p x && eq (key x) k

      go : (xs : List (RowOf t)) → AreApart (λ a b. eq (key a) (key b)) xs
          → AllByRecursion (λ x. test x ≡ true) xs → length xs ≤ 1
      go (x ∷ y ∷ xs) up all = absurd (true≢false (sym
          (key_test (key y) k (key x) (and_parts _ _ all.0).1 ∙ (and_parts _ _ all.1.0).1) ∙ up.0.0))
      go _ up all = omega arith
