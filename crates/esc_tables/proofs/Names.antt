-- The names of fields, compared with those of cells.
use Rattle.std.proofs.Common.{◌≡◌, ℕ, zero, suc, ◌+◌, ◌<◌, List, [], ◌∷◌, ◌++◌, map, take, length}
use Rattle.std.proofs.Common.{get_or, slice_get, Some, refl, sym, ap, ap₂, ◌∙◌, arith}
use Rattle.std.proofs.lemmas.List.{get_or-map, length-map, map-append, take_more}
use Rattle.std.proofs.lemmas.Option.{get_or_from_slice_get, slice_get-get_or, slice_get_within}
use Rattle.csv.specs.Records.{field_at}

pub at_place : (names : List (List ℕ)) (i : ℕ) → field_at names i ≡ slice_get names i
unfolding field_at
at_place [] i = refl
at_place (n ∷ names) zero = refl
at_place (n ∷ names) (suc i) = at_place names i

module _ {X : Type 0} (name : X → List ℕ) (cells : List X) (i : ℕ) (d : X) (within : i < length cells) where
  -- the name of the cell at a place
  pub named_at : slice_get (map name cells) i ≡ Some (name (get_or cells i d))
  named_at =
      slice_get-get_or (map name cells) i (name d) (omega (arith, within, length-map cells name))
      ∙ ap Some (get_or-map name cells i d (name d) within)

  -- one more name is that of its cell
  pub one_more : (names : List (List ℕ)) → slice_get names i ≡ Some (name (get_or cells i d))
      → take i names ≡ map name (take i cells) → take (i + 1) names ≡ map name (take (i + 1) cells)
  one_more names there same =
      let n = name (get_or cells i d) in
      take_more names i n (slice_get_within names i n there)
      ∙ ap₂ (λ (front : List (List ℕ)) (n : List ℕ). front ++ n ∷ []) same (get_or_from_slice_get names i n n there)
      ∙ sym (ap (map name) (take_more cells i d within) ∙ map-append name (take i cells) (get_or cells i d ∷ []))
