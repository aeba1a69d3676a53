-- A table of typed rows in the order of a number, under edits and under queries of all rows.
use Rattle.esc_sql.proofs.Common.{◌≡◌, ℕ, ◌<◌, pos, true, false, List, [], ◌∷◌, ◌++◌, refl}
use Rattle.esc_sql.proofs.Common.{arith, filter, ◌<ℤ◌, map, sym, ap, subst, ◌∙◌, ℤ, Bool, not, ◌&&◌}
use Rattle.esc_sql.proofs.Common.{int_eq, IsPermutation, Ordering, Less, Equal, Greater, ◌+ℤ◌, fold}
use Rattle.esc_sql.proofs.Common.{reverse}
use Rattle.esc_sql.proofs.Common.{int_cmp, and_parts, int_ranked, ints, recursion_from_All}
use Rattle.esc_sql.proofs.Common.{All-from_recursion, All-permutation, IsPermutation-reverse}
use Rattle.esc_sql.proofs.Common.{AllByRecursion, list_any, ordering_then, id_in, without_all}
use Rattle.esc_sql.proofs.Common.{IsAscending, put_row}
use Rattle.esc_sql.proofs.Common.{rowid, without_rowid, filter_same, all_weaker, ascending_weaker}
use Rattle.esc_sql.proofs.Common.{filter_all, all_of, IsKeyedBy, insert_by, has_key, update_where}
use Rattle.esc_sql.proofs.Common.{delete_where, value_cmp-Int, Row, value_cmp, Int, filter-map, is_eq}
use Rattle.sqlite_keyed.specs.Lists.{without_key}
use Rattle.sqlite_keyed.proofs.WriteLemmas.{removes_delete, puts_update}
use mathlib.Core.List.{reverse-cons}
use Rattle.sqlite_keyed.proofs.ListLemmas.{ascending-append, along_permutation}
use Rattle.sqlite_keyed.proofs.KeyedLemmas.{Less-from_lt}
use Rattle.esc_sql.proofs.Sorts.{then_equal}
use Rattle.std.proofs.lemmas.Bool.{not-true}
use Rattle.esc_sql.proofs.Finds.{filter-and}
use Rattle.sqlite_keyed.proofs.SliceLemmas.{any_is_found}
use Rattle.std.proofs.lemmas.List.Folds.{fold-map}
use Rattle.std.proofs.lemmas.Cmp.{by_ranked}
use mathlib.Core.Bool.{and_comm}
use Rattle.sqlite_tied.proofs.RuleLemmas.{any_stored}

-- a filter that passes all leaves all
pub every : {X : Type 0} (xs : List X) → filter (λ _. true) xs ≡ xs
every xs = filter_all (λ _. true) xs (all_of _ (λ _. refl) xs)

-- each stored row begins with its number
module _ {X : Type 0} (key : X → ℤ) (rest : X → Row) where
  abbrev pub stored : X → Row
  stored x = Int (key x) ∷ rest x

  pub put_typed : (new : X) (xs : List X) → put_row (stored new) (map stored xs) ≡ map stored (insert_by key xs new)
  put_typed new [] = refl
  put_typed new (x ∷ xs) = grind (arith, value_cmp-Int (key x) (key new), put_typed new xs)

  pub next_typed : (n : ℤ) (xs : List X) → fold (λ (_ : ℤ) (r : Row). id_in (rowid r) +ℤ pos 1)
      n (map stored xs) ≡ fold (λ (_ : ℤ) (x : X). key x +ℤ pos 1) n xs
  next_typed = fold-map (λ (_ : ℤ) (r : Row). id_in (rowid r) +ℤ pos 1) stored

  pub without_all_typed : (ids : List ℤ) (xs : List X)
      → without_all (map stored xs) ids ≡ map stored (fold (without_key key) xs ids)
  without_all_typed [] xs = refl
  without_all_typed (id ∷ ids) xs =
      ap (λ rows. without_all rows ids) (filter-map _ stored xs ∙ ap (map stored)
      (filter_same _ _ (λ x. ap (λ o. not (is_eq o)) (value_cmp-Int (key x) id)) xs))
      ∙ without_all_typed ids (without_key key xs id)

  -- rows may be taken out in any order
  any_order : (ids others : List ℤ) → IsPermutation ids others
      → (xs : List X) → fold (without_key key) xs ids ≡ fold (without_key key) xs others
  any_order = along_permutation
      (λ ids others. (xs : List X) → fold (without_key key) xs ids ≡ fold (without_key key) xs others)
      (λ ids xs. refl) (λ id ids others more xs. more (without_key key xs id))
      (λ a b ids xs. ap (λ l. fold (without_key key) l ids) (filter-and _ _ xs ∙ filter_same _ _ (λ x.
      and_comm (not (int_eq (key x) a)) (not (int_eq (key x) b))) xs ∙ sym (filter-and _ _ xs)))
      (λ ids others more f g xs. f xs ∙ g xs)

  -- so what a query finds, in any order, is what its test selects
  pub cut_typed : (p : X → Bool) (ids : List ℤ) (xs : List X) → IsKeyedBy key xs → IsPermutation
      (map key (filter p xs)) ids → without_all (map stored xs) ids ≡ map stored (delete_where p xs)
  cut_typed p ids xs up same = without_all_typed ids xs ∙ ap (map stored)
      (sym (any_order (map key (filter p xs)) ids same xs) ∙ removes_delete key p xs up)

  -- a row put in the place of the one that has its number
  above_all : (id : ℤ) (xs : List X) → AllByRecursion (λ x. id <ℤ key x) xs → without_key key xs id ≡ xs
  above_all id xs all = filter_all (λ x. not (int_eq (key x) id))
      xs (all_weaker _ (λ x. not (int_eq (key x) id) ≡ true) (λ x h. grind (arith, ints)) xs all)

  first : (y : X) (xs : List X) → AllByRecursion (λ x. key y <ℤ key x) xs → insert_by key xs y ≡ y ∷ xs
  first y [] all = refl
  first y (x ∷ xs) all = let low = all.0 in
      let greater : int_cmp (key x) (key y) ≡ Greater = grind (arith, ints) in rw greater refl

  put_over : (new : X) (xs : List X)
      → IsKeyedBy key xs → insert_by key (without_key key xs (key new)) new ≡ insert_by key xs new
  put_over new [] up = refl
  put_over new (x ∷ xs) up = by_ranked _ _ _ (int_cmp (key x) (key new)) (int_ranked (key x) (key new) _ refl)
      (λ e low. rw (e, e) (ap (λ ys. x ∷ ys) (put_over new xs up.1)))
      (λ e same. let all = rw same at up.0 in
      rw e (ap (λ ys. insert_by key ys new) (above_all (key new) xs all) ∙ first new xs all))
      (λ e low. rw (e, e) (ap (λ ys. new ∷ x ∷ ys) (above_all (key new)
      xs (all_weaker _ (λ z. key new <ℤ key z) (λ z h. omega (arith, ints)) xs up.0))))

  -- one row changed, of which the number stays
  pub set_typed : (p : X → Bool) (f : X → X) (xs : List X) (x : X)
      → ((y : X) → key (f y) ≡ key y) → IsKeyedBy key xs → filter p xs ≡ x ∷ []
      → put_row (stored (f x)) (without_rowid (key x) (map stored xs)) ≡ map stored (update_where p f xs)
  set_typed p f xs x keeps up one =
      ap (put_row (stored (f x))) (without_all_typed (key x ∷ []) xs) ∙ put_typed (f x) (without_key key xs (key x))
      ∙ ap (map stored) (ap (λ k. insert_by key (without_key key xs k) (f x)) (sym (keeps x))
      ∙ put_over (f x) xs up ∙ rw one at (puts_update key p f keeps xs up))

-- a table in the order of a number that its rows give themselves

module _ {X : Type 0} (key : X → ℤ) where
  -- a row above all others goes to the end
  pub insert_last : (xs : List X) (new : X)
      → AllByRecursion (λ x. key x <ℤ key new) xs → insert_by key xs new ≡ xs ++ new ∷ []
  insert_last [] new all = refl
  insert_last (x ∷ xs) new all =
      rw (Less-from_lt (key x) (key new) all.0) (ap (λ ys. x ∷ ys) (insert_last xs new all.1))

  -- what a query compares by the number alone
  abbrev by_number : X → X → Ordering
  by_number a b = ordering_then (value_cmp (Int (key a)) (Int (key b))) Equal

  less : (a b : X) → key a <ℤ key b → by_number a b ≡ Less
  less a b low = then_equal _ ∙ value_cmp-Int (key a) (key b) ∙ Less-from_lt (key a) (key b) low

  pub rises : (cmp : X → X → Ordering) → ((a b : X) → cmp a b ≡ by_number a b)
      → (xs : List X) → IsKeyedBy key xs → IsAscending (λ a b. cmp a b ≡ Less) xs
  rises cmp same = ascending_weaker (λ a b. key a <ℤ key b)
      (λ a b. cmp a b ≡ Less) (λ a b low. same a b ∙ less a b low)

  -- and the other way round
  pub falls : (cmp : X → X → Ordering) → ((a b : X) → cmp a b ≡ by_number b a)
      → (xs : List X) → IsKeyedBy key xs → IsAscending (λ a b. cmp a b ≡ Less) (reverse xs)
  falls cmp same [] up = tt
  falls cmp same (x ∷ xs) up =
      let Above : X → Type 0 = λ y. key x <ℤ key y in
      let above = recursion_from_All Above _ (All-permutation Above xs (reverse xs)
      (IsPermutation-reverse xs) (All-from_recursion Above xs up.0)) in
      subst (IsAscending (λ a b. cmp a b ≡ Less)) (sym (reverse-cons x xs))
      (ascending-append (λ a b. cmp a b ≡ Less) (reverse xs) (x ∷ []) (falls cmp same xs up.1) (tt, tt)
      (all_weaker Above (λ y. AllByRecursion (λ b. cmp y b ≡ Less) (x ∷ []))
      (λ y low. (same y x ∙ less x y low, tt)) (reverse xs) above))

-- the numbers of a table as counts
pub below : {X : Type 0} (key : X → ℤ) (number : X → ℕ)
    → ((x : X) → key x ≡ pos (number x)) → (new : X) (xs : List X)
    → AllByRecursion (λ x. number x < number new) xs → AllByRecursion (λ x. key x <ℤ key new) xs
below key number is new xs = all_weaker (λ x. number x < number new)
    (λ x. key x <ℤ key new) (λ x low. rw (is x, is new) (grind (arith, low))) xs

-- a row that was put in met none of its number
pub was_free : {X : Type 0} (key : X → ℤ) (rest : X → Row) (id : ℤ) (xs : List X)
    → (not (list_any (λ r. is_eq (value_cmp (rowid r) (Int id))) (map (λ x. Int (key x) ∷ rest x) xs))
    && true) ≡ true → has_key key xs id ≡ false
was_free key rest id xs fresh =
    sym (any_stored (λ _. map (stored key rest) xs) 0 (stored key rest)
    key xs refl (λ x. refl) _ (λ x. int_eq (key x) id) (λ x. ap is_eq (value_cmp-Int (key x) id))
    ∙ any_is_found (λ x. int_eq (key x) id) xs)
    ∙ not-true _ (and_parts _ true fresh).0
