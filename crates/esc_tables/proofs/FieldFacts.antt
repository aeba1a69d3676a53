-- The fields of a row, and its cells.
use Rattle.std.proofs.Common.{◌≡◌, ℕ, zero, suc, List, [], ◌∷◌, map, Some, None, slice_get, length}
use Rattle.std.proofs.Common.{refl, ap, arith}
use Rattle.std.specs.List.{zip}
use Rattle.std.proofs.lemmas.Slice.Zip.{length-zip}
use Rattle.csv.specs.Records.{field_at}

-- the cell at a place: field and text, if and_parts are there
pub cell_is : (names texts : List (List ℕ)) (i : ℕ) (f t : List ℕ) → Some f ≡ field_at names i
    → Some t ≡ field_at texts i → slice_get (zip names texts) i ≡ Some (f, t)
unfolding field_at
cell_is [] texts i f t n x = absurd cc
cell_is (a ∷ names) [] i f t n x = absurd cc
cell_is (a ∷ names) (b ∷ texts) zero f t n x = cc
cell_is (a ∷ names) (b ∷ texts) (suc i) f t n x = cell_is names texts i f t n x

-- there is no cell where there is no name
pub no_name : (names texts : List (List ℕ)) (i : ℕ)
    → None ≡ field_at names i → slice_get (zip names texts) i ≡ None
unfolding field_at
no_name [] texts i n = refl
no_name (a ∷ names) [] i n = refl
no_name (a ∷ names) (b ∷ texts) zero n = absurd cc
no_name (a ∷ names) (b ∷ texts) (suc i) n = no_name names texts i n

-- there is no cell where there is no text
pub no_text : (names texts : List (List ℕ)) (i : ℕ)
    → None ≡ field_at texts i → slice_get (zip names texts) i ≡ None
unfolding field_at
no_text [] texts i x = refl
no_text (a ∷ names) [] i x = refl
no_text (a ∷ names) (b ∷ texts) zero x = absurd cc
no_text (a ∷ names) (b ∷ texts) (suc i) x = no_text names texts i x

-- as many cells as texts, where there are as many texts as names
pub all_cells : (names texts : List (List ℕ))
    → length texts ≡ length names → length (zip names texts) ≡ length texts
all_cells names texts same = omega (arith, same, length-zip names texts)

-- the pairs of two images of a list
pub zip_images : {X Y Z : Type 0} (f : X → Y) (g : X → Z) (xs : List X)
    → zip (map f xs) (map g xs) ≡ map (λ x. (f x, g x)) xs
zip_images f g [] = refl
zip_images f g (x ∷ xs) = ap (λ (ps : List _). (f x, g x) ∷ ps) (zip_images f g xs)
