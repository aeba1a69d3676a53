-- Laws of lists that an element is in.
use Rattle.std.specs.Prelude.{◌≡◌, ◌⊎◌, List, [], ◌∷◌}
use Rattle.std.specs.List.{Contains}
use Rattle.std.proofs.Common.{inl, inr}
use Rattle.std.proofs.lemmas.List.Elements.{All-nil, All-contains, Contains-append_left}
use Rattle.std.proofs.lemmas.List.Elements.{Contains-append_right, Contains-append_cases}
use Rattle.std.proofs.lemmas.List.Elements.{Contains-push, Contains-push_cases}

module _ {X : Type 0} where
  pub nothing_in : (x : X) → Contains [] x → ⊥
  nothing_in x there = All-contains (λ (y : X). ⊥) [] x (All-nil (λ (y : X). ⊥)) there

  pub first_in : (x : X) (xs : List X) → Contains (x ∷ xs) x
  first_in x xs = Contains-append_left (x ∷ []) xs x (Contains-push [] x)

  pub later : (x y : X) (xs : List X) → Contains xs y → Contains (x ∷ xs) y
  later x y xs there = Contains-append_right (x ∷ []) xs y there

  pub only : (x y : X) → Contains (x ∷ []) y → x ≡ y
  only x y there = by_place (Contains-push_cases [] x y there)
    where
      by_place : Contains [] y ⊎ (x ≡ y) → x ≡ y
      by_place (inl none) = absurd (nothing_in y none)
      by_place (inr same) = same

  pub first_or_later : (x y : X) (xs : List X) → Contains (x ∷ xs) y → (x ≡ y) ⊎ Contains xs y
  first_or_later x y xs there = by_place (Contains-append_cases (x ∷ []) xs y there)
    where
      by_place : Contains (x ∷ []) y ⊎ Contains xs y → (x ≡ y) ⊎ Contains xs y
      by_place (inl first) = inl (only x y first)
      by_place (inr behind) = inr behind
