-- Texts in order, each once.
use Rattle.std.proofs.Common.{◌≡◌, ℕ, List, [], ◌∷◌, true, false, Bool, refl, sym, ◌∙◌, ap, map}
use Rattle.std.specs.Prelude.{cond}
use Rattle.std.specs.declared.cmp.Ordering.{Ordering}
use Rattle.std.specs.declared.cmp.Ordering.TheVariants.{Less}
use Rattle.std.specs.List.{dedup, dedup_from, AllByRecursion}
use Rattle.std.specs.List.Sorted.{IsStrictlySortedBy}
use Rattle.std.specs.Ordering.{nat_cmp}
use Rattle.std.specs.Cmp.{Equal-is}
use Rattle.std.specs.Cmp.Lexicographic.{slice_cmp, texts_ties, pointwise}
use Rattle.std.specs.Prelude.{nat_eq}
use Rattle.std.proofs.lemmas.Map.Lookups.{exact_bytes}

dedup_from_map : {X Y : Type 0} → (f : X → Y) (same : Y → Y → Bool) (x : X) (xs : List X)
    → map f (dedup_from (λ a b. same (f a) (f b)) x xs) ≡ dedup_from same (f x) (map f xs)
dedup_from_map f same x [] = refl
dedup_from_map {X} {Y} f same x (y ∷ ys) =
    elim (same (f y) (f x)) as (λ v. map f (cond v (dedup_from (λ a b. same (f a) (f b)) x ys)
    (x ∷ dedup_from (λ a b. same (f a) (f b)) y ys))
    ≡ cond v (dedup_from same (f x) (map f ys)) (f x ∷ dedup_from same (f y) (map f ys))) [
      | true ↦ dedup_from_map f same x ys
      | false ↦ ap (λ (l : List Y). f x ∷ l) (dedup_from_map f same y ys)
    ]

-- what a function makes of things, each once
pub dedup_map : {X Y : Type 0} → (f : X → Y) (same : Y → Y → Bool) (xs : List X)
    → map f (dedup (λ a b. same (f a) (f b)) xs) ≡ dedup same (map f xs)
dedup_map f same [] = refl
dedup_map f same (x ∷ xs) = dedup_from_map f same x xs

all_map : {X Y : Type 0} → (f : X → Y) (P : Y → Type 0) (xs : List X)
    → AllByRecursion (λ x. P (f x)) xs → AllByRecursion P (map f xs)
all_map f P [] h = h
all_map f P (x ∷ xs) h = (h.0, all_map f P xs h.1)

-- and in order
pub sorted_map : {X Y : Type 0} → (f : X → Y) (cmp : Y → Y → Ordering) (xs : List X)
    → IsStrictlySortedBy (λ a b. cmp (f a) (f b)) xs → IsStrictlySortedBy cmp (map f xs)
unfolding IsStrictlySortedBy
sorted_map f cmp [] h = h
sorted_map f cmp (x ∷ xs) h = (all_map f (λ y. cmp (f x) y ≡ Less) xs h.0, sorted_map f cmp xs h.1)

-- texts that are equal by their bytes are one
pub one_text : (a b : List ℕ) → pointwise nat_eq a b ≡ true → a ≡ b
one_text a b h = exact_bytes a b ((Equal-is (slice_cmp nat_cmp a b)).0 (sym (texts_ties a b) ∙ h))
