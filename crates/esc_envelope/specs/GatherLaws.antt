-- Laws of a loop that makes something of each element of a list, or of none.
use Rattle.std.proofs.Common.{◌≡◌, ℕ, ◌+◌, ◌<◌, ◌≤◌, List, [], ◌∷◌, ◌++◌, length}
use Rattle.std.proofs.Common.{drop, map, get_or}
use Rattle.std.proofs.Common.{Option, Some, None, refl, sym, ap, subst, ◌∙◌, append_assoc}
use Rattle.std.specs.Prelude.{option_map}
use Rattle.std.proofs.lemmas.List.{drop_more, drop_all, append-nil}
use Rattle.esc_envelope.specs.Sequences.{◌>>=◌}
use Rattle.esc_envelope.specs.DeclaredTables.{all_of}

-- what was made so far, and what is left
abbrev pub after_front : {B : Type 0} → List B → Option (List B) → Option (List B)
after_front front rest = option_map (λ more. front ++ more) rest

module _ {A X B : Type 0} (f : X → Option B) (v : A → X) (xs : List A) where
  -- what is known before element i: f sees v of it
  abbrev pub IsGathered : ℕ → List B → Type 0
  IsGathered i made = after_front made (all_of f (map v (drop i xs))) ≡ all_of f (map v xs)

  moved : (front : List B) (y : B) (rest : Option (List B))
      → after_front front (rest >>= (λ more. Some (y ∷ more)))
      ≡ after_front (front ++ (y ∷ [])) rest
  moved front y None = refl
  moved front y (Some more) =
      ap (λ (l : List B). Some l) (sym (append_assoc front (y ∷ []) more))

  -- of an element and those after it, where f gives a value of it, or none
  first : (front : List B) (i : ℕ) (d : A) (o : Option B) → i < length xs
      → f (v (get_or xs i d)) ≡ o
      → after_front front
      (o >>= (λ y. all_of f (map v (drop (i + 1) xs)) >>= (λ more. Some (y ∷ more))))
      ≡ after_front front (all_of f (map v (drop i xs)))
  unfolding all_of
  first front i d o inside told =
      ap (λ (p : Option B). after_front front
      (p >>= (λ y. all_of f (map v (drop (i + 1) xs)) >>= (λ more. Some (y ∷ more)))))
      (sym told)
      ∙ ap (λ (l : List A). after_front front (all_of f (map v l))) (sym (drop_more xs i d inside))

  pub next : (i : ℕ) (d : A) (y : B) (made more : List B) → i < length xs
      → f (v (get_or xs i d)) ≡ Some y → more ≡ made ++ (y ∷ []) → IsGathered i made
      → IsGathered (i + 1) more
  next i d y made more inside told is known =
      subst (λ (l : List B). IsGathered (i + 1) l) (sym is)
      (sym (moved made y (all_of f (map v (drop (i + 1) xs))))
      ∙ first made i d (Some y) inside told ∙ known)

  pub fails : (i : ℕ) (d : A) (made : List B) → i < length xs → f (v (get_or xs i d)) ≡ None
      → IsGathered i made → None ≡ all_of f (map v xs)
  fails i d made inside told known = first made i d None inside told ∙ known

  pub ended : (i : ℕ) (made : List B) → length xs ≤ i → IsGathered i made
      → Some made ≡ all_of f (map v xs)
  unfolding all_of
  ended i made past known =
      ap (λ (l : List B). Some l) (sym (append-nil made))
      ∙ ap (λ (l : List A). after_front made (all_of f (map v l))) (sym (drop_all i xs past))
      ∙ known
