-- What is an element of lists made of lists.
use Rattle.std.proofs.Common.{◌≡◌, ◌⊎◌, inl, inr, Bool, true, false, cond, List, [], ◌∷◌, ◌++◌}
use Rattle.std.proofs.Common.{map, filter, refl, sym, ap, subst, ◌∙◌}
use Rattle.std.specs.Prelude.{◌↔◌}
use Rattle.std.specs.List.{Contains, flat_map, list_any}
use Rattle.std.proofs.lemmas.List.Elements.{Contains-append_left, Contains-append_right, Contains-append_cases}
use Rattle.std.proofs.lemmas.List.Folds.{Any-from_list_any, list_any-from_Any}
use Rattle.std.proofs.lemmas.Bool.{false≢true}
use Rattle.esc_bundle.specs.ElementLaws.{nothing_in, first_in, later, first_or_later}

-- an element of joined lists is in one of them
pub from_pieces : {X A : Type 0} (g : X → List A) (xs : List X) (a : A)
    → Contains (flat_map g xs) a → (x : X) × Contains xs x × Contains (g x) a
from_pieces g [] a h = absurd (nothing_in a h)
from_pieces g (y ∷ xs) a h = elim (Contains-append_cases (g y) (flat_map g xs) a h) [
  | inl one ↦ (y, first_in y xs, one)
  | inr rest ↦ let r = from_pieces g xs a rest in (r.0, later y r.0 xs r.1, r.2)
]

-- an element of one of the lists is in the joined one
pub in_pieces : {X A : Type 0} (g : X → List A) (xs : List X) (x : X) (a : A)
    → Contains xs x → Contains (g x) a → Contains (flat_map g xs) a
in_pieces g [] x a has one = absurd (nothing_in x has)
in_pieces {X} {A} g (y ∷ xs) x a has one = elim (first_or_later y x xs has) [
  | inl e ↦ Contains-append_left (g y) (flat_map g xs) a (subst (λ (z : X). Contains (g z) a) (sym e) one)
  | inr rest ↦ Contains-append_right (g y) (flat_map g xs) a (in_pieces g xs x a rest one)
]

-- an element of what is chosen comes from one that passed
pub from_chosen : {X A : Type 0} (p : X → Bool) (g : X → A) (xs : List X) (a : A)
    → Contains (map g (filter p xs)) a → (x : X) × Contains xs x × (p x ≡ true) × (a ≡ g x)
from_chosen p g [] a h = absurd (nothing_in a h)
from_chosen {X} {A} p g (y ∷ xs) a h = pick (p y) refl (from_chosen p g xs a) h
  where
    pick : (b : Bool) → p y ≡ b → (Contains (map g (filter p xs)) a → (x : X) × Contains xs x
        × (p x ≡ true) × (a ≡ g x)) → Contains (map g (cond b (y ∷ filter p xs) (filter p xs))) a
        → (x : X) × Contains (y ∷ xs) x × (p x ≡ true) × (a ≡ g x)
    pick false e again h = let r = again h in (r.0, later y r.0 xs r.1, r.2, r.3)
    pick true e again h = first (first_or_later (g y) a (map g (filter p xs)) h)
      where
        first : (g y ≡ a) ⊎ Contains (map g (filter p xs)) a
            → (x : X) × Contains (y ∷ xs) x × (p x ≡ true) × (a ≡ g x)
        first (inl same) = (y, first_in y xs, e, sym same)
        first (inr rest) = let r = again rest in (r.0, later y r.0 xs r.1, r.2, r.3)

-- one that passed is among what is chosen
pub in_chosen : {X A : Type 0} (p : X → Bool) (g : X → A) (xs : List X) (x : X)
    → Contains xs x → p x ≡ true → Contains (map g (filter p xs)) (g x)
in_chosen p g [] x has passes = absurd (nothing_in x has)
in_chosen {X} {A} p g (y ∷ xs) x has passes = pick (p y) refl (first_or_later y x xs has) (in_chosen p g xs x)
  where
    pick : (b : Bool) → p y ≡ b
        → (y ≡ x) ⊎ Contains xs x → (Contains xs x → p x ≡ true → Contains (map g (filter p xs)) (g x))
        → Contains (map g (cond b (y ∷ filter p xs) (filter p xs))) (g x)
    pick false e (inl same) again = absurd (false≢true (sym e ∙ ap p same ∙ passes))
    pick false e (inr rest) again = again rest passes
    pick true e (inl same) again =
        subst (λ (z : X). Contains (g y ∷ map g (filter p xs)) (g z)) same (first_in (g y) _)
    pick true e (inr rest) again = later (g y) (g x) _ (again rest passes)

-- a test that some element passes
pub from_any : {X : Type 0} (p : X → Bool) (xs : List X)
    → list_any p xs ≡ true → (x : X) × Contains xs x × (p x ≡ true)
from_any p xs h = let (k, x, lt, is, passes) = Any-from_list_any p xs h in (x, (k, lt, is), passes)

-- some element passes where one does
pub any_from : {X : Type 0} (p : X → Bool) (xs : List X) (x : X)
    → Contains xs x → p x ≡ true → list_any p xs ≡ true
any_from p xs x (k, lt, is) passes = list_any-from_Any p xs (k, x, lt, is, passes)

-- what the elements of two lists are, those of both together are
pub appended : {X P Q : Type 0} (xs ys : List X) (x : X)
    → (Contains xs x ↔ P) → (Contains ys x ↔ Q) → Contains (xs ++ ys) x ↔ (P ⊎ Q)
appended {X} {P} {Q} xs ys x left right = (out, into)
  where
    out : Contains (xs ++ ys) x → P ⊎ Q
    out h = elim (Contains-append_cases xs ys x h) [ inl a ↦ inl (left.0 a) | inr b ↦ inr (right.0 b) ]

    into : P ⊎ Q → Contains (xs ++ ys) x
    into (inl a) = Contains-append_left xs ys x (left.1 a)
    into (inr b) = Contains-append_right xs ys x (right.1 b)
