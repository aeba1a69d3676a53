-- Laws of lists of which this is an element, or of which one has a property.
use Rattle.std.specs.Prelude.{◌≡◌, ◌⊎◌, List, [], ◌∷◌, ◌++◌}
use Rattle.std.specs.List.{Any, Contains}
use Rattle.std.proofs.Common.{inl, inr, sym, subst}
use Rattle.std.proofs.lemmas.List.Elements.{Contains-append_left, Contains-push}
use Rattle.std.proofs.lemmas.List.Elements.{Contains-push_cases}
use Rattle.esc_bundle.specs.ElementLaws.{first_in}
pub use Rattle.esc_bundle.specs.ElementLaws.{later, first_or_later}

module _ {X : Type 0} (P : X → Type 0) where
  -- of this element
  any_by : (xs : List X) (x : X) → Contains xs x → P x → Any P xs
  any_by xs x there p = (there.0, x, there.1, there.2, p)

  pub any_first : (x : X) (xs : List X) → P x → Any P (x ∷ xs)
  any_first x xs p = any_by (x ∷ xs) x (first_in x xs) p

  pub any_later : (x : X) (xs : List X) → Any P xs → Any P (x ∷ xs)
  any_later x xs (k, y, within, is, p) = any_by (x ∷ xs) y (later x y xs (k, within, is)) p

  pub any_split : (x : X) (xs : List X) → Any P (x ∷ xs) → P x ⊎ Any P xs
  any_split x xs (k, y, within, is, p) = by_place (first_or_later x y xs (k, within, is))
    where
      by_place : (x ≡ y) ⊎ Contains xs y → P x ⊎ Any P xs
      by_place (inl same) = inl (subst P (sym same) p)
      by_place (inr behind) = inr (any_by xs y behind p)

  -- the same with one more element at the end
  pub any_front : (xs : List X) (x : X) → Any P xs → Any P (xs ++ x ∷ [])
  any_front xs x (k, y, within, is, p) =
      any_by (xs ++ x ∷ []) y (Contains-append_left xs (x ∷ []) y (k, within, is)) p

  pub any_last : (xs : List X) (x : X) → P x → Any P (xs ++ x ∷ [])
  any_last xs x p = any_by (xs ++ x ∷ []) x (Contains-push xs x) p

  pub any_front_or_last : (xs : List X) (x : X) → Any P (xs ++ x ∷ []) → Any P xs ⊎ P x
  any_front_or_last xs x (k, y, within, is, p) =
      by_place (Contains-push_cases xs x y (k, within, is))
    where
      by_place : Contains xs y ⊎ (x ≡ y) → Any P xs ⊎ P x
      by_place (inl there) = inl (any_by xs y there p)
      by_place (inr same) = inr (subst P (sym same) p)

  -- where each element that has one property has another
  pub any_weaker : (Q : X → Type 0) → ((x : X) → P x → Q x) → (xs : List X) → Any P xs → Any Q xs
  any_weaker Q weaker xs (k, x, within, is, p) = (k, x, within, is, weaker x p)
