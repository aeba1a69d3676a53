-- Rows that rise, and one row more in its place.
use Rattle.std.proofs.Common.{◌≡◌, ◌⊎◌, inl, inr, ℕ, zero, suc, ◌<◌, ◌≤◌, true, List, []}
use Rattle.std.proofs.Common.{◌∷◌, length, get_or, Result, Ok, Err, is_ok, refl, sym, subst, true≢false}
use Rattle.std.proofs.Common.{arith}
use Rattle.std.specs.List.{Contains, insert}
use Rattle.std.specs.List.Sorted.{IsBinarySearchResult, IsSearchInRange}
use Rattle.std.specs.Ordering.{nat_cmp}
use Rattle.std.proofs.lemmas.List.Sorted.{searched, IsPermutation-insert, IsPermutation-sym}
use Rattle.std.proofs.lemmas.List.Sorted.{All-permutation, Contains-permutation}
use Rattle.std.proofs.lemmas.List.Elements.{All-cons, All-from_get_or}
use Rattle.std.proofs.lemmas.Map.Lookups.{exact_unsigned}
use Rattle.esc_store.specs.StoreState.{IsRising}
use Rattle.esc_store.specs.ListLaws.{first_or_later, later}
use Rattle.esc_store.specs.Holding.{IsInserted}

-- ---- rising rows, by place

rises : (xs : List ℕ) → IsRising xs
    → (i j : ℕ) → i ≤ j → j < length xs → get_or xs i 0 ≤ get_or xs j 0
rises [] up i j le within = omega (arith, within)
rises (x ∷ xs) up zero zero le within = omega arith
rises (x ∷ xs) up zero (suc j) le within = omega (arith, up.0 j 0 (omega (arith, within)))
rises (x ∷ xs) up (suc i) zero le within = omega (arith, le)
rises (x ∷ xs) up (suc i) (suc j) le within = rises xs up.1 i j (omega (arith, le)) (omega (arith, within))

-- a row between those below it and those above it
rising_insert : (xs : List ℕ) (i y : ℕ) → IsRising xs → i ≤ length xs
    → ((k : ℕ) → k < i → get_or xs k 0 < y)
    → ((k : ℕ) → i ≤ k → k < length xs → y < get_or xs k 0) → IsRising (insert xs i y)
rising_insert xs zero y up le below above =
    (All-from_get_or (λ n. y < n) xs 0 (λ k within. above k (omega arith) within), up)
rising_insert [] (suc i) y up le below above = absurd (omega (arith, le))
rising_insert (x ∷ xs) (suc i) y up le below above = (
  All-permutation (λ n. x < n) (y ∷ xs) (insert xs i y)
      (IsPermutation-insert xs i y) (All-cons (λ n. x < n) y xs (below 0 (omega arith)) up.0),
  rising_insert xs i y up.1 (omega (arith, le)) (λ k under. below (suc k) (omega (arith, under)))
      (λ k past within. above (suc k) (omega (arith, past)) (omega (arith, within))),
)

-- a row that a search finds is one of them
pub found_there : (rows : List ℕ) (row : ℕ) (r : Result ℕ ℕ)
    → is_ok r ≡ true → IsSearchInRange r (length rows)
    → IsBinarySearchResult (λ y. nat_cmp y row) rows r → Contains rows row
found_there rows row (Ok i) found within at = (i, within, exact_unsigned _ _ (at row))
found_there rows row (Err i) found within at = absurd (true≢false (sym found))

-- ---- one element more

module _ (rows : List ℕ) (row : ℕ) (up : IsRising rows) where
  -- a row that is put in its place
  pub put_in : (seen more : List ℕ) (place : ℕ)
      → seen ≡ rows → IsBinarySearchResult (λ y. nat_cmp y row) seen (Err place)
      → more ≡ insert rows place row → IsInserted rows row more
  put_in seen more place same found made =
      let found_there = subst
      (λ (xs : List ℕ). IsBinarySearchResult (λ y. nat_cmp y row) xs (Err place)) same found in
      let at = searched rows row (Err place) found_there (rises rows up) in
      subst (IsInserted rows row) (sym made) (record
      { rising = rising_insert rows place row up at.0 at.1 at.2; each = λ r. (only r, old r) })
    where
      after : List ℕ
      after = insert rows place row

      only : (r : ℕ) → Contains after r → (r ≡ row) ⊎ Contains rows r
      only r there =
          let order = IsPermutation-sym (row ∷ rows) after (IsPermutation-insert rows place row) in
          by_first (first_or_later row r rows (Contains-permutation after (row ∷ rows) r order there))
        where
          by_first : (row ≡ r) ⊎ Contains rows r → (r ≡ row) ⊎ Contains rows r
          by_first (inl is) = inl (sym is)
          by_first (inr behind) = inr behind

      within : (r : ℕ) → Contains (row ∷ rows) r → Contains after r
      within r there = Contains-permutation (row ∷ rows) after r (IsPermutation-insert rows place row) there

      old : (r : ℕ) → (r ≡ row) ⊎ Contains rows r → Contains after r
      old r (inl is) = subst (Contains after) (sym is) (within row (0, omega arith, refl))
      old r (inr there) = within r (later row r rows there)
