-- What is gathered of the elements so far, with one more.
use Rattle.std.proofs.Common.{◌≡◌, ℕ, ◌+◌, ◌<◌, List, [], ◌∷◌, ◌++◌, length, take, drop}
use Rattle.std.proofs.Common.{get_or, filter_map, Option, Some, None, refl, sym, ap, ◌∙◌}
use Rattle.std.proofs.lemmas.List.{take-append-drop, append-nil}
use Rattle.std.proofs.lemmas.List.Elements.{filter_map-append}
use Rattle.esc_csv.specs.Lines.{Line}
use Rattle.esc_pack.specs.Describing.{first}
use Rattle.esc_pack.proofs.SectionFacts.{taken}

module _ {A B : Type 0} (f : A → Option B)
    (xs : List A) {i : ℕ} {x : A} (d : A) (lt : i < length xs) (is : x ≡ get_or xs i d) where
  one_more : filter_map f (take (i + 1) xs) ≡ filter_map f (take i xs) ++ filter_map f (x ∷ [])
  one_more = ap (filter_map f) (taken xs d lt is) ∙ filter_map-append f (take i xs) (x ∷ [])

  -- an element of which something is made adds that
  pub added : {y : B} {old new : List B}
      → Some y ≡ f x → old ≡ filter_map f (take i xs) → new ≡ old ++ y ∷ []
      → new ≡ filter_map f (take (i + 1) xs)
  added {y} made before pushed =
      let whole = one_more in pushed ∙ ap (λ (l : List B). l ++ y ∷ []) before ∙ sym (rw (sym made) at whole)

  -- another one adds nothing
  pub none_added : {old : List B}
      → None ≡ f x → old ≡ filter_map f (take i xs) → old ≡ filter_map f (take (i + 1) xs)
  none_added made before =
      let whole = one_more in before ∙ sym (append-nil (filter_map f (take i xs))) ∙ sym (rw (sym made) at whole)

-- the first one of which something is made
pub first_made : {A : Type 0} (f : A → Option Line) (xs : List A) {i : ℕ} {x : A} {y : Line}
    → i < length xs → x ≡ get_or xs i x
    → filter_map f (take i xs) ≡ [] → Some y ≡ f x → Some y ≡ first (filter_map f xs)
first_made {A} f xs {i} {x} {y} lt is none made =
    let front : y ∷ [] ≡ filter_map f (take (i + 1) xs) = added f xs x lt is made (sym none) refl in
    let whole : filter_map f xs ≡ filter_map f (take (i + 1) xs) ++ filter_map f (drop (i + 1) xs) =
    ap (filter_map f) (sym (take-append-drop (i + 1) xs)) ∙ filter_map-append f (take (i + 1) xs) (drop (i + 1) xs) in
    ap (λ (l : List Line). first (l ++ filter_map f (drop (i + 1) xs))) front ∙ sym (ap first whole)
