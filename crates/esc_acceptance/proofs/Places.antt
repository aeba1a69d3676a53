-- Lists by the elements at their places.
use Rattle.std.proofs.Common.{◌≡◌, ℕ, ◌+◌, ◌<◌, List, [], ◌∷◌, ◌++◌, length, get_or, take}
use Rattle.std.proofs.Common.{Some, slice_get, sym, ap, ◌∙◌}
use Rattle.std.proofs.lemmas.List.{take_more}
use Rattle.std.proofs.lemmas.Option.{slice_get-get_or, get_or_from_slice_get}

-- lists that are the same before a place, and have the same there, are the same up to it
pub one_more : {A : Type 0} (xs ys : List A) (i : ℕ) (d : A)
    → i < length xs → i < length ys → slice_get xs i ≡ slice_get ys i
    → take i xs ≡ take i ys → take (i + 1) xs ≡ take (i + 1) ys
one_more {A} xs ys i d lt among same so_far =
    let there : slice_get ys i ≡ Some (get_or xs i d) = sym same ∙ slice_get-get_or xs i d lt in
    let next : get_or ys i d ≡ get_or xs i d = get_or_from_slice_get ys i (get_or xs i d) d there in
    take_more xs i d lt ∙ ap (λ (zs : List A). zs ++ get_or xs i d ∷ []) so_far
    ∙ ap (λ (z : A). take i ys ++ z ∷ []) (sym next) ∙ sym (take_more ys i d among)
