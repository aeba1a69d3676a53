-- Rows that are numbered one after another, from a number on.
use Rattle.esc_store.proofs.Common.{◌≡◌, ℕ, zero, suc, ◌+◌, ◌<◌, List, [], ◌∷◌, ◌++◌}
use Rattle.esc_store.proofs.Common.{length, take, get_or, map, refl, sym, ap, ◌∙◌, arith, length-map}
use Rattle.esc_store.proofs.Common.{take_more}

module _ {X R : Type 0} (row : ℕ → X → R) (from : ℕ → List X → List R) (none : (n : ℕ) → from n []
    ≡ []) (more : (n : ℕ) (x : X) (xs : List X) → from n (x ∷ xs) ≡ row n x ∷ from (suc n) xs) where
  pub from_append : (n m : ℕ) (xs ys : List X)
      → length xs + n ≡ m → from n (xs ++ ys) ≡ from n xs ++ from m ys
  from_append n m [] ys is = let e : n ≡ m = omega (arith, is) in
      ap (λ k. from k ys) e ∙ ap (λ l. l ++ from m ys) (sym (none n))
  from_append n m (x ∷ xs) ys is =
      more n x (xs ++ ys) ∙ ap (λ l. row n x ∷ l) (from_append (suc n) m xs ys (omega (arith, is)))
      ∙ ap (λ l. l ++ from m ys) (sym (more n x xs))

  from_length : (n : ℕ) (xs : List X) → length (from n xs) ≡ length xs
  from_length n [] = ap length (none n)
  from_length n (x ∷ xs) = ap length (more n x xs) ∙ ap suc (from_length (suc n) xs)

  -- one row more
  pub from_next : (n : ℕ) (rs : List R) (xs : List X) (i : ℕ) (r : R) (d : X)
      → rs ≡ from n (take i xs) → i < length xs
      → r ≡ row (length (take i xs) + n) (get_or xs i d) → rs ++ (r ∷ []) ≡ from n (take (i + 1) xs)
  from_next n rs xs i r d so_far lt is =
      let at = length (take i xs) + n in
      rw (
        so_far,
        is,
        take_more xs i d lt,
        from_append n at (take i xs) (get_or xs i d ∷ []) refl,
        more at (get_or xs i d) [],
        none (suc at),
      ) refl

  -- rows in another form
  pub from_size : {A : Type 0} (f : A → R) (n : ℕ) (ss : List A) (xs : List X)
      → map f ss ≡ from n xs → length ss ≡ length xs
  from_size f n ss xs is = sym (length-map ss f) ∙ ap length is ∙ from_length n xs

  pub from_nth : {A : Type 0} (f : A → R) (n : ℕ) (ss : List A) (xs : List X) (i : ℕ) (d : A) (e : X)
      → map f ss ≡ from n xs → i < length ss
      → f (get_or ss i d) ≡ row (length (take i xs) + n) (get_or xs i e)
  from_nth f n [] xs i d e is lt = absurd (omega arith)
  from_nth f n (s ∷ ss) [] i d e is lt = let no : f s ∷ map f ss ≡ [] = is ∙ none n in absurd cc
  from_nth f n (s ∷ ss) (x ∷ xs) zero d e is lt =
      let all : f s ∷ map f ss ≡ row n x ∷ from (suc n) xs = is ∙ more n x xs in
      let at : n ≡ 0 + n = omega arith in (cc)
  from_nth f n (s ∷ ss) (x ∷ xs) (suc i) d e is lt =
      let all : f s ∷ map f ss ≡ row n x ∷ from (suc n) xs = is ∙ more n x xs in
      let at : length (take i xs) + suc n ≡ suc (length (take i xs)) + n = omega arith in
      from_nth f (suc n) ss xs i d e (cc) (omega arith) ∙ ap (λ m. row m (get_or xs i e)) at
