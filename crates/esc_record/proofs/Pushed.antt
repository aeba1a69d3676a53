-- Lists of things, written one after another.
use Rattle.std.proofs.Common.{◌≡◌, ℕ, ◌+◌, ◌<◌, Bool, true, false, List, [], ◌∷◌, ◌++◌}
use Rattle.std.proofs.Common.{length, take, get_or, slice_get, Some, refl, sym, ap, ◌∙◌, append_assoc}
use Rattle.std.specs.List.{list_all, flat_map}
use Rattle.std.proofs.lemmas.List.{take_more, append-nil}
use Rattle.std.proofs.lemmas.List.Folds.{list_all_at, list_all_more}
use Rattle.std.proofs.lemmas.List.Concat.{flat_map-cons}
use Rattle.std.proofs.lemmas.Grind.{flat_map-append}
use Rattle.std.proofs.lemmas.Option.{get_or_from_slice_get, slice_get_within}

-- the first i of these fit and were written after the old bytes
pub record IsPushed {X : Type 0} (fits : X → Bool)
    (text : X → List ℕ) (xs : List X) (old : List ℕ) (i : ℕ) (new : List ℕ) : Type 0 where
  pub small : list_all fits (take i xs) ≡ true
  pub bytes : new ≡ old ++ flat_map text (take i xs)

-- one more thing is written
pub pushed_more : {X : Type 0} (fits : X → Bool)
    (text : X → List ℕ) (xs : List X) (old : List ℕ) (i : ℕ) (new newer : List ℕ) (d : X)
    → IsPushed fits text xs old i new → i < length xs → fits (get_or xs i d) ≡ true
    → newer ≡ new ++ text (get_or xs i d) → IsPushed fits text xs old (i + 1) newer
pushed_more fits text xs old i new newer d so_far below fit more =
    record {
      small = list_all_more fits xs i d below ∙ rw (so_far.small, fit) refl;
      bytes = more ∙ (ap (λ b. b ++ text (get_or xs i d)) so_far.bytes
          ∙ (append_assoc old (flat_map text (take i xs)) (text (get_or xs i d)) ∙ ap (λ b. old ++ b)
          (ap (λ b. flat_map text (take i xs) ++ b) (sym (append-nil (text (get_or xs i d)))
          ∙ sym (flat_map-cons text (get_or xs i d) [])) ∙ (sym (flat_map-append text (take i xs)
          (get_or xs i d ∷ [])) ∙ ap (flat_map text) (sym (take_more xs i d below))))));
    }

-- the thing at a place fits, and was written next
pub pushed_next : {X : Type 0} (fits : X → Bool) (text : X → List ℕ) (xs : List X) (old : List ℕ)
    (i : ℕ) (new newer : List ℕ) (x : X) → IsPushed fits text xs old i new → slice_get xs i ≡ Some x
    → fits x ≡ true → newer ≡ new ++ text x → IsPushed fits text xs old (i + 1) newer
pushed_next fits text xs old i new newer x so_far there fit more =
    let here : get_or xs i x ≡ x = get_or_from_slice_get xs i x x there in
    pushed_more fits text xs old i new newer x so_far (slice_get_within xs i x there)
    (ap fits here ∙ fit) (more ∙ ap (λ y. new ++ text y) (sym here))

-- the thing at a place does not fit
pub too_large : {X : Type 0} (fits : X → Bool) (xs : List X) (i : ℕ) (x : X)
    → slice_get xs i ≡ Some x → fits x ≡ false → list_all fits xs ≡ false
too_large fits xs i x there large = list_all_at fits xs i x (slice_get_within xs i x there)
    (ap fits (get_or_from_slice_get xs i x x there) ∙ large)
