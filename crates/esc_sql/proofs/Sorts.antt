-- Rows sorted by a key, and the first of rows that rise in an order.
use Rattle.esc_sql.proofs.Common.{◌≡◌, ℕ, zero, suc, pos, true, false, List, [], ◌∷◌, refl, arith, inl}
use Rattle.esc_sql.proofs.Common.{inr, filter, ◌≤◌, take, length, Option, None, sym, ap, ◌∙◌, Bool}
use Rattle.esc_sql.proofs.Common.{cond, ◌&&◌, Some, true≢false, find, Ordering, Less, Equal}
use Rattle.esc_sql.proofs.Common.{Greater, is_eq, ◌==◌, bytes_eq, int_cmp, cases_Bool, nat_cmp_total}
use Rattle.esc_sql.proofs.Common.{nat_list_cmp_total, on_total, recursion_from_All, IsPermutation-sym}
use Rattle.esc_sql.proofs.Common.{is_eq-slice_cmp, IsTotalOrder, slice_cmp, AllByRecursion, last_or}
use Rattle.esc_sql.proofs.Common.{ordering_then, nat_cmp, IsAscending, all_weaker}
use Rattle.esc_sql.proofs.Common.{IsPermutation-sort_by, sort_by, value_cmp-Int, value_cmp-Blob}
use Rattle.esc_sql.proofs.Common.{value_cmp, Int, Blob}
use Rattle.std.proofs.lemmas.Cmp.{then_total}
use Rattle.esc_sql.proofs.Finds.{find-permutation}
use Rattle.std.specs.Cmp.{Equal-is}
use Rattle.std.specs.Ordering.{is_gt, is_le, ordering_reverse}
use Rattle.std.proofs.lemmas.List.Elements.{filter_passes}
use Rattle.sqlite_keyed.specs.Lists.{insert_sorted}

-- a look-up that one row at most answers finds it in the sorted list
pub find-sorted : {X : Type 0} (cmp : X → X → Ordering) → IsTotalOrder cmp
    → (p : X → Bool) (xs : List X) → length (filter p xs) ≤ 1 → find p (sort_by cmp xs) ≡ find p xs
find-sorted cmp total p xs few = find-permutation
    p xs (sort_by cmp xs) few (IsPermutation-sym _ _ (IsPermutation-sort_by cmp total xs))

-- the numbers, and then the bytes
pub number_cmp : (a b : ℕ) → int_cmp (pos a) (pos b) ≡ nat_cmp a b
number_cmp a b = grind arith

-- two keys are equal in the order where kind and text are
pub key_eq : (k : ℕ) (q : List ℕ) (kind : ℕ) (key : List ℕ)
    → is_eq (ordering_then (nat_cmp k kind) (slice_cmp nat_cmp q key)) ≡ ((k == kind) && bytes_eq q key)
key_eq k q kind key = grind (arith, is_eq-slice_cmp q key)

-- an order without a further part
pub then_equal : (o : Ordering) → ordering_then o Equal ≡ o
then_equal o = grind arith

-- rows with a kind and a key
module _ {X : Type 0} (kind : X → ℕ) (key : X → List ℕ) where
  abbrev pub by_both : X → X → Ordering
  by_both a b = ordering_then (nat_cmp (kind a) (kind b)) (slice_cmp nat_cmp (key a) (key b))

  pub both_total : IsTotalOrder by_both
  both_total = then_total (on_total kind nat_cmp_total) (on_total key nat_list_cmp_total)

  -- so the query compares what it sorts by
  pub both_values : (a b : X) → ordering_then (value_cmp (Int (pos (kind a))) (Int (pos (kind b))))
      (ordering_then (value_cmp (Blob (key a)) (Blob (key b))) Equal) ≡ by_both a b
  both_values a b = rw (
    value_cmp-Int (pos (kind a)) (pos (kind b)),
    number_cmp (kind a) (kind b),
    value_cmp-Blob (key a) (key b),
    then_equal (slice_cmp nat_cmp (key a) (key b)),
  ) refl

-- ---- the first of rows that rise in an order

-- what holds of all holds of the first
pub all-take : {X : Type 0} (P : X → Type 0) (n : ℕ) (xs : List X)
    → AllByRecursion P xs → AllByRecursion P (take n xs)
all-take P zero xs all = tt
all-take P (suc n) [] all = tt
all-take P (suc n) (x ∷ xs) all = (all.0, all-take P n xs all.1)

-- the first of a rising list rise
pub ascending-take : {X : Type 0} (R : X → X → Type 0) (n : ℕ) (xs : List X)
    → IsAscending R xs → IsAscending R (take n xs)
ascending-take R zero xs up = tt
ascending-take R (suc n) [] up = tt
ascending-take R (suc n) (x ∷ xs) up = (all-take (R x) n xs up.0, ascending-take R n xs up.1)

-- what a filter leaves passed its test
pub all_passed : {X : Type 0} (p : X → Bool) (xs : List X) → AllByRecursion (λ x. p x ≡ true) (filter p xs)
all_passed p xs = recursion_from_All (λ x. p x ≡ true) (filter p xs) (filter_passes p xs)

module _ {X : Type 0} (cmp : X → X → Ordering) where
  all-insert : (P : X → Type 0) (new : X) (xs : List X)
      → P new → AllByRecursion P xs → AllByRecursion P (insert_sorted cmp new xs)
  all-insert P new [] h all = (h, tt)
  all-insert P new (x ∷ xs) h all =
      elim (is_gt (cmp new x)) as (λ b. AllByRecursion P (cond b (x ∷ insert_sorted cmp new xs)
      (new ∷ x ∷ xs))) [ true ↦ (all.0, all-insert P new xs h all.1) | false ↦ (h, all) ]

  pub all-sorted : (P : X → Type 0) (xs : List X) → AllByRecursion P xs → AllByRecursion P (sort_by cmp xs)
  all-sorted P [] all = tt
  all-sorted P (x ∷ xs) all = all-insert P x _ all.0 (all-sorted P xs all.1)

module _ {X : Type 0} (cmp : X → X → Ordering) (total : IsTotalOrder cmp) where
  rises-insert : (new : X) (xs : List X)
      → AllByRecursion (λ y. is_eq (cmp new y) ≡ false) xs → IsAscending (λ a b. cmp a b ≡ Less) xs
      → IsAscending (λ a b. cmp a b ≡ Less) (insert_sorted cmp new xs)
  rises-insert new [] apart up = (tt, tt)
  rises-insert new (x ∷ xs) apart up = go (cmp new x) refl (rises-insert new xs apart.1 up.1)
    where
      go : (o : Ordering) → cmp new x ≡ o → IsAscending (λ a b. cmp a b ≡ Less) (insert_sorted cmp new xs)
          → IsAscending (λ a b. cmp a b ≡ Less)
          (cond (is_gt o) (x ∷ insert_sorted cmp new xs) (new ∷ x ∷ xs))
      go Less e more = ((e, all_weaker _ (λ y. cmp new y ≡ Less) (λ y. total.trans new x y e) xs up.0), up)
      go Equal e more = absurd (true≢false (sym (ap is_eq e) ∙ apart.0))
      go Greater e more = (all-insert cmp _ new xs (total.antisymm x new ∙ ap ordering_reverse e) up.0, more)

  -- rows of which no two are alike rise once they are sorted
  pub rises-sorted : (xs : List X) → IsAscending (λ a b. is_eq (cmp a b) ≡ false) xs
      → IsAscending (λ a b. cmp a b ≡ Less) (sort_by cmp xs)
  rises-sorted [] apart = tt
  rises-sorted (x ∷ xs) apart = rises-insert x _ (all-sorted cmp _ xs apart.0) (rises-sorted xs apart.1)

  abbrev pub is_at : X → X → Bool
  is_at t x = is_eq (cmp x t)

  -- not after the last one, if there is one
  abbrev pub reaches : X → Option X → Bool
  reaches t None = true
  reaches t (Some l) = is_le (cmp t l)

  none_above : (t : X) (xs : List X) → AllByRecursion (λ y. cmp t y ≡ Less) xs → find (is_at t) xs ≡ None
  none_above t [] all = refl
  none_above t (x ∷ xs) all = rw (total.antisymm x t ∙ ap ordering_reverse all.0) (none_above t xs all.1)

  -- the last of rows that are all above t is above it
  below_last : (t x : X) (xs : List X)
      → AllByRecursion (λ y. cmp t y ≡ Less) (x ∷ xs) → reaches t (last_or None (x ∷ xs)) ≡ true
  below_last t x [] all = ap is_le all.0
  below_last t x (y ∷ ys) all = below_last t y ys all.1

  one_finds : (t x : X) (xs : List X) → AllByRecursion (λ y. cmp x y ≡ Less) xs → cond (is_at t x)
      (Some x) None ≡ cond (is_le (cmp t x)) (cond (is_at t x) (Some x) (find (is_at t) xs)) None
  one_finds t x xs all =
      let none : cmp t x ≡ Less → find (is_at t) xs ≡ None = λ e. none_above t xs
      (all_weaker (λ y. cmp x y ≡ Less) (λ y. cmp t y ≡ Less) (λ y. total.trans t x y e) xs all) in
      let turned = total.antisymm x t in
      grind (arith, none, turned)

  -- up to the last of the first rows, what they have is what all have
  pub firsts_find : (n : ℕ) (t : X) (xs : List X) → IsAscending (λ a b. cmp a b ≡ Less) xs → find (is_at
      t) (take (suc n) xs) ≡ cond (reaches t (last_or None (take (suc n) xs))) (find (is_at t) xs) None
  firsts_find n t [] up = refl
  firsts_find zero t (x ∷ xs) up = one_finds t x xs up.0
  firsts_find (suc n) t (x ∷ []) up = one_finds t x [] up.0
  firsts_find (suc n) t (x ∷ y ∷ ys) up = elim (cases_Bool (is_at t x)) [
    | inl is ↦
        let alike : cmp x t ≡ Equal = (Equal-is (cmp x t)).0 is in
        let above = all_weaker (λ z. cmp x z ≡ Less)
        (λ z. cmp t z ≡ Less) (λ z h. sym (total.congr x t z alike) ∙ h) (y ∷ ys) up.0 in
        rw is (sym (ap (λ b. cond b (Some x) None)
        (below_last t y (take n ys) (all-take (λ z. cmp t z ≡ Less) (suc n) (y ∷ ys) above))))
    | inr other ↦ rw other (firsts_find n t (y ∷ ys) up.1)
  ]
