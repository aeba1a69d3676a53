-- Names on the wire, label by label.
use Rattle.std.proofs.Common.{◌≡◌, ℕ, ◌+◌, ◌≤◌, true, false, List, [], ◌∷◌, ◌++◌, length}
use Rattle.std.proofs.Common.{take, drop, None, Some, refl, sym, ap, ◌∙◌, subst, arith, append_assoc}
use Rattle.std.specs.Prelude.{cond, not}
use Rattle.std.specs.List.{flat_map, slice_split, position, position_or_len, onto_first}
use Rattle.std.proofs.lemmas.List.Splits.{slice_split_first}
use Rattle.esc_zone.specs.Names.{is_dot}
use Rattle.esc_zone.proofs.Above.{found_position, no_position}

-- labels, each after its length
abbrev pub wire_labels : List (List ℕ) → List ℕ
wire_labels labels = flat_map (λ (label : List ℕ). length label ∷ label) labels

-- the first label is what stands before the first dot
pub label_first : (xs : List ℕ) (at : ℕ) → Some at ≡ position is_dot xs
    → slice_split is_dot xs ≡ take at xs ∷ slice_split is_dot (drop (at + 1) xs)
label_first xs at h =
    let w = found_position xs at h in
    subst (λ n. slice_split is_dot xs ≡ take n xs ∷ slice_split is_dot (drop (n + 1) xs)) (sym w.0)
    (slice_split_first is_dot xs 0 w.1)

whole_label : (xs : List ℕ) → length xs ≤ position_or_len is_dot xs → slice_split is_dot xs ≡ xs ∷ []
whole_label [] h = refl
whole_label (b ∷ rest) h =
    let at = position_or_len is_dot rest in
    (elim (is_dot b) as (λ v. length (b ∷ rest) ≤ cond (not v) (1 + at) 0
    → cond v ([] ∷ slice_split is_dot rest) (onto_first b (slice_split is_dot rest)) ≡ (b ∷ rest) ∷ []) [
      | true ↦ λ k. absurd (omega arith)
      | false ↦ λ k. (let more : length rest ≤ at = omega arith in ap (onto_first b) (whole_label rest more))
    ]) h

-- a text without a dot is one label
pub label_last : (xs : List ℕ) → None ≡ position is_dot xs → slice_split is_dot xs ≡ xs ∷ []
label_last xs h = whole_label xs (no_position xs h)

-- a label more
pub label_more : (wire : List ℕ) (label : List ℕ) (labels rest : List (List ℕ)) (all more : List ℕ)
    → labels ≡ label ∷ rest → more ≡ wire ++ length label ∷ label → wire ++ wire_labels labels ≡ all
    → more ++ wire_labels rest ≡ all
label_more wire label labels rest all more e m h =
    ap (λ (w : List ℕ). w ++ wire_labels rest) m
    ∙ append_assoc wire (length label ∷ label) (wire_labels rest)
    ∙ sym (ap (λ (ls : List (List ℕ)). wire ++ wire_labels ls) e) ∙ h
