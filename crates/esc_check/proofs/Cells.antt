-- The cells of a row from one place on.
use Rattle.std.proofs.Common.{◌≡◌, ℕ, ◌+◌, ◌<◌, List, [], ◌∷◌, length, drop, None, Some}
use Rattle.std.proofs.Common.{slice_get, sym, ap, ◌∙◌, subst}
use Rattle.std.proofs.lemmas.List.{drop_more}
use Rattle.std.proofs.lemmas.Option.{none-some, slice_get_within, slice_get-get_or, get_or_from_slice_get}

-- a field's name and its text
abbrev pub Cell : Type 0
Cell = List ℕ × List ℕ

-- a cell that is there is the first of those that are left
pub cells_from : (cells : List Cell) (i : ℕ) (x : Cell)
    → Some x ≡ slice_get cells i → drop i cells ≡ x ∷ drop (i + 1) cells
cells_from cells i x is =
    drop_more cells i x (slice_get_within cells i x (sym is))
    ∙ ap (λ (y : Cell). y ∷ drop (i + 1) cells) (get_or_from_slice_get cells i x x (sym is))

-- there is a cell at each place within
pub cell_within : (cells : List Cell) (i n : ℕ)
    → n ≡ length cells → i < n → None ≡ slice_get cells i → ⊥
cell_within cells i n all within is =
    none-some _ (is ∙ slice_get-get_or cells i ([], []) (subst (λ m. i < m) all within))
