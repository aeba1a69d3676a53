-- Tables put in place one by one are the same tables in the order of their names.
use Rattle.std.proofs.Common.{◌≡◌, ℕ, zero, suc, ◌+◌, ◌<◌, true, false, List, [], ◌∷◌, ◌++◌}
use Rattle.std.proofs.Common.{length, get_or, sym, ap, subst, inl, inr, arith}
use Rattle.std.specs.List.{fold}
use Rattle.std.specs.List.Sorted.{IsPermutation, IsSortedBy}
use Rattle.std.specs.Cmp.Lexicographic.{slice_cmp}
use Rattle.std.specs.Ordering.{nat_cmp, is_lt, ordering_reverse}
use Rattle.std.specs.declared.cmp.Ordering.{Ordering}
use Rattle.std.specs.declared.cmp.Ordering.TheVariants.{Less, Equal, Greater}
use Rattle.std.proofs.lemmas.Bool.{cases_Bool}
use Rattle.std.proofs.lemmas.Cmp.{nat_list_cmp_total}
use Rattle.std.proofs.lemmas.List.{append-nil}
use Rattle.std.proofs.lemmas.List.Sorted.{IsPermutation-refl, IsPermutation-cons, IsPermutation-middle}
use Rattle.std.proofs.lemmas.List.Sorted.{IsPermutation-append_left, IsPermutation-trans}
use Rattle.esc_envelope.specs.EnvelopeValue.{TableValue}
use Rattle.esc_tables.specs.Reading.{is_before, placed, by_name}

-- ---- the same tables

placed_same : (us : List TableValue) (t : TableValue) → IsPermutation (t ∷ us) (placed us t)
placed_same [] t = IsPermutation-refl (t ∷ [])
placed_same (u ∷ us) t = elim (cases_Bool (is_before t u)) [
  | inl e ↦ rw e (IsPermutation-refl (t ∷ u ∷ us))
  | inr e ↦ rw e (IsPermutation-trans (t ∷ u ∷ us) (u ∷ t ∷ us) (u ∷ placed us t) (IsPermutation-middle
      (t ∷ []) u us) (IsPermutation-cons u (t ∷ us) (placed us t) (placed_same us t)))
]

onward_same : (ts us : List TableValue) → IsPermutation (us ++ ts) (fold placed us ts)
onward_same [] us = subst (λ (xs : List TableValue). IsPermutation xs us) (sym (append-nil us)) (IsPermutation-refl us)
onward_same (t ∷ ts) us =
    let first : IsPermutation (us ++ (t ∷ ts)) (t ∷ (us ++ ts)) = IsPermutation-middle us t ts in
    let second : IsPermutation ((t ∷ us) ++ ts) (placed us t ++ ts) =
    IsPermutation-append_left ts (t ∷ us) (placed us t) (placed_same us t) in
    IsPermutation-trans (us ++ (t ∷ ts)) (placed us t ++ ts) (fold placed us (t ∷ ts))
    (IsPermutation-trans (us ++ (t ∷ ts)) (t ∷ (us ++ ts)) (placed us t ++ ts) first second)
    (onward_same ts (placed us t))

-- tables in the order of names are the same tables
pub by_name_same : (ts : List TableValue) → IsPermutation ts (by_name ts)
by_name_same ts = onward_same ts []

-- ---- in order

turned : (r s : Ordering) → s ≡ ordering_reverse r → is_lt r ≡ true → is_lt s ≡ false
turned Less s e h = ap is_lt e
turned Equal s e h = absurd cc
turned Greater s e h = absurd cc

not_back : (t u : TableValue) → is_before t u ≡ true → is_before u t ≡ false
not_back t u h = turned (slice_cmp nat_cmp t.name u.name)
    (slice_cmp nat_cmp u.name t.name) (nat_list_cmp_total.antisymm u.name t.name) h

abbrev HeadAfter : TableValue → List TableValue → Type 0
HeadAfter t [] = Unit {0}
HeadAfter t (u ∷ us) = is_before u t ≡ false

abbrev Rises : List TableValue → Type 0
Rises [] = Unit {0}
Rises (t ∷ ts) = HeadAfter t ts × Rises ts

placed_after : (u : TableValue) (us : List TableValue) (t : TableValue)
    → HeadAfter u us → is_before t u ≡ false → HeadAfter u (placed us t)
placed_after u [] t h after = after
placed_after u (v ∷ us) t h after = elim (cases_Bool (is_before t v)) [ inl e ↦ rw e after | inr e ↦ rw e h ]

placed_rises : (us : List TableValue) (t : TableValue) → Rises us → Rises (placed us t)
placed_rises [] t h = (tt, tt)
placed_rises (u ∷ us) t h = elim (cases_Bool (is_before t u)) [
  | inl e ↦ rw e (not_back t u e, h)
  | inr e ↦ rw e (placed_after u us t h.0 e, placed_rises us t h.1)
]

onward_rises : (ts us : List TableValue) → Rises us → Rises (fold placed us ts)
onward_rises [] us h = h
onward_rises (t ∷ ts) us h = onward_rises ts (placed us t) (placed_rises us t h)

next_after : (t : TableValue) (ts : List TableValue) (d : TableValue)
    → HeadAfter t ts → 0 < length ts → is_before (get_or ts 0 d) t ≡ false
next_after t [] d h lt = absurd (omega arith)
next_after t (u ∷ us) d h lt = h

sorted_at : (ts : List TableValue) (k : ℕ) (d : TableValue)
    → Rises ts → suc k < length ts → is_before (get_or ts (suc k) d) (get_or ts k d) ≡ false
sorted_at [] k d h lt = absurd (omega arith)
sorted_at (t ∷ ts) zero d h lt = next_after t ts d h.0 (omega arith)
sorted_at (t ∷ ts) (suc k) d h lt = sorted_at ts k d h.1 (omega arith)

sorted_from_rises : (ts : List TableValue) → Rises ts → IsSortedBy is_before ts
sorted_from_rises ts h = λ k d low lt. let e : k + 1 ≡ suc k = omega arith in rw e (sorted_at ts k d h (omega arith))

-- tables in the order of names rise
pub by_name_rises : (ts : List TableValue) → IsSortedBy is_before (by_name ts)
by_name_rises ts = sorted_from_rises (by_name ts) (onward_rises ts [] tt)
