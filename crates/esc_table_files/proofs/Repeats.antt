-- Names that are the same but for case, from one place on.
use Rattle.std.proofs.Common.{◌≡◌, ℕ, ◌+◌, ◌-◌, ◌<◌, true, false, Bor, List, ◌∷◌, length}
use Rattle.std.proofs.Common.{take, drop, map, refl, sym, ap, ◌∙◌, arith}
use Rattle.std.specs.List.{list_any}
use Rattle.std.specs.Str.{str_eq_ignore_ascii_case}
use Rattle.std.proofs.lemmas.List.{take_all, drop-drop, length-drop}
use Rattle.esc_bundle.specs.ListLaws.{list_any_map}
use Rattle.esc_table_files.specs.Apart.{are_apart}

-- the texts of borrowed names
abbrev pub texts : List (Bor (List ℕ)) → List (List ℕ)
texts names = map (λ n. n.now) names

-- the names from a place on, as a slice has them
abbrev pub left_from : ℕ → List (Bor (List ℕ)) → List (Bor (List ℕ))
left_from i names = take (length names - i) (drop i names)

all_left : (names : List (Bor (List ℕ))) (i : ℕ) → left_from i names ≡ drop i names
all_left names i = take_all (length names - i) (drop i names) (grind (arith, length-drop i names))

-- one is left at each place within
pub one_left : (names : List (Bor (List ℕ))) (i : ℕ)
    → i < length names → length (left_from i names) ≡ 0 → ⊥
one_left names i within none = grind (arith, length-drop i names, ap length (sym (all_left names i)), none, within)

-- what is left after the first
others : (names : List (Bor (List ℕ))) (i : ℕ) (x : Bor (List ℕ)) (rest : List (Bor (List ℕ)))
    → drop i names ≡ x ∷ rest → drop (i + 1) names ≡ rest
others names i x rest is = sym (drop-drop 1 i names) ∙ ap (drop 1) is

-- the first of those that are left isn't repeated
pub goes_on : (names : List (Bor (List ℕ))) (i : ℕ) (x : Bor (List ℕ)) (rest : List (Bor (List ℕ)))
    → left_from i names ≡ x ∷ rest
    → list_any (λ (n : Bor (List ℕ)). str_eq_ignore_ascii_case x.now n.now) rest ≡ false
    → are_apart (texts (drop i names)) ≡ are_apart (texts (drop (i + 1) names))
goes_on names i x rest is other =
    let left = sym (all_left names i) ∙ is in
    ap (λ (l : List (Bor (List ℕ))). are_apart (texts l)) left
    ∙ (rw (list_any_map (str_eq_ignore_ascii_case x.now) (λ (n : Bor (List ℕ)). n.now) rest, other) refl)
    ∙ ap (λ (l : List (Bor (List ℕ))). are_apart (texts l)) (sym (others names i x rest left))

-- it is
pub stops : (names : List (Bor (List ℕ))) (i : ℕ) (x : Bor (List ℕ)) (rest : List (Bor (List ℕ)))
    → left_from i names ≡ x ∷ rest
    → list_any (λ (n : Bor (List ℕ)). str_eq_ignore_ascii_case x.now n.now) rest ≡ true
    → are_apart (texts (drop i names)) ≡ false
stops names i x rest is same =
    ap (λ (l : List (Bor (List ℕ))). are_apart (texts l)) (sym (all_left names i) ∙ is)
    ∙ (rw (list_any_map (str_eq_ignore_ascii_case x.now) (λ (n : Bor (List ℕ)). n.now) rest, same) refl)
