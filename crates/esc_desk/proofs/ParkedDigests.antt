-- There is one list of the digests under which bodies are parked.
use Rattle.std.proofs.Common.{◌≡◌, ◌⊎◌, inl, inr, ℕ, ◌<◌, List, [], ◌∷◌, length, Option, refl}
use Rattle.std.proofs.Common.{sym, ap, ap₂, subst, ◌∙◌, arith}
use Rattle.std.specs.List.{All, Contains}
use Rattle.std.specs.Ordering.{nat_cmp, ordering_reverse}
use Rattle.std.specs.declared.cmp.Ordering.TheVariants.{Less, Greater}
use Rattle.std.specs.Cmp.Lexicographic.{slice_cmp}
use Rattle.std.proofs.lemmas.Cmp.{nat_list_cmp_total}
use Rattle.std.proofs.lemmas.List.Elements.{All-contains}
use Rattle.esc_store.specs.StoreState.{AreRisingTexts, AreParked, IsFull}
use Rattle.esc_store.specs.ListLaws.{first_or_later, later}

-- a text is below another
abbrev Below : List ℕ → List ℕ → Type 0
Below t u = slice_cmp nat_cmp t u ≡ Less

not_both : (t u : List ℕ) → Below t u → Below u t → ⊥
not_both t u first second = let e : Less ≡ Greater =
    sym first ∙ nat_list_cmp_total.antisymm t u ∙ ap ordering_reverse second in cc

no_element : (t : List ℕ) → Contains [] t → ⊥
no_element t there = absurd (omega (arith, there.1))

-- after one first text, what is in one list is in the other
behind_too : (t u : List ℕ) (ts us : List (List ℕ)) → t ≡ u → All (λ (x : List ℕ). Below t x) ts
    → ((d : List ℕ) → Contains (t ∷ ts) d → Contains (u ∷ us) d)
    → (d : List ℕ) → Contains ts d → Contains us d
behind_too t u ts us one up there d at = by_first (first_or_later u d us (there d (later t d ts at)))
  where
    by_first : (u ≡ d) ⊎ Contains us d → Contains us d
    by_first (inl same) =
        let less : Below d d =
        subst (λ x. Below x d) (one ∙ same) (All-contains (λ (x : List ℕ). Below t x) ts d up at) in
        absurd (not_both d d less less)
    by_first (inr behind) = behind

same_texts : (ts us : List (List ℕ)) → AreRisingTexts ts → AreRisingTexts us
    → ((d : List ℕ) → Contains ts d → Contains us d)
    → ((d : List ℕ) → Contains us d → Contains ts d) → ts ≡ us
same_texts [] [] up vp there back = refl
same_texts [] (u ∷ us) up vp there back = absurd (no_element u (back u (0, omega arith, refl)))
same_texts (t ∷ ts) [] up vp there back = absurd (no_element t (there t (0, omega arith, refl)))
same_texts (t ∷ ts) (u ∷ us) up vp there back =
    let rest = same_texts ts us up.1 vp.1 (behind_too t u ts us one up.0 there)
    (behind_too u t us ts (sym one) vp.0 back) in
    ap₂ (λ (x : List ℕ) (xs : List (List ℕ)). x ∷ xs) one rest
  where
    one : t ≡ u
    one = by_first (first_or_later u t us (there t (0, omega arith, refl)))
        (first_or_later t u ts (back u (0, omega arith, refl)))
      where
        by_first : (u ≡ t) ⊎ Contains us t → (t ≡ u) ⊎ Contains ts u → t ≡ u
        by_first (inl same) other = sym same
        by_first (inr behind) (inl same) = same
        by_first (inr behind) (inr ahead) =
            let t_first = All-contains (λ (x : List ℕ). Below t x) ts u up.0 ahead in
            let u_first = All-contains (λ (x : List ℕ). Below u x) us t vp.0 behind in
            absurd (not_both t u t_first u_first)

-- where the digests are fewer than 1,024, so is each other list of them
pub not_full : (parked : List ℕ → Option (List ℕ)) (digests : List (List ℕ))
    → AreParked parked digests → length digests < 1_024 → IsFull parked → ⊥
not_full parked digests are few full =
    let same : full.digests ≡ digests =
    same_texts full.digests digests full.are.rising are.rising
    (λ d at. (are.each d).1 ((full.are.each d).0 at)) (λ d at. (full.are.each d).1 ((are.each d).0 at)) in
    omega (arith, ap length same, full.many, few)
