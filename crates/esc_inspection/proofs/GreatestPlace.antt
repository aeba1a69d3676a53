-- No listed place is after the end of the chain.
use Rattle.std.proofs.Common.{◌≡◌, ◌⊎◌, inl, inr, ℕ, zero, suc, ℤ, ◌<ℤ◌, Bool, true, false, not}
use Rattle.std.proofs.Common.{◌&&◌, List, [], ◌∷◌, Option, None, Some, refl, sym, ap}
use Rattle.std.proofs.Common.{◌∙◌, arith, true≢false}
use Rattle.std.specs.Prelude.{int_lt, nat_lt, option_map}
use Rattle.std.specs.Ordering.{int_eq}
use Rattle.std.specs.List.{list_all, Contains}
use Rattle.std.proofs.lemmas.Bool.{and_parts, and_cases, or_parts, not-true, ltb-false, cases_eq}
use Rattle.std.proofs.lemmas.Bool.Decides.{Decides-int_eq}
use Rattle.std.proofs.lemmas.Int.{ints}
use Rattle.esc_envelope.specs.declared.place.Place.{Place}
use Rattle.esc_envelope.specs.Place.{rank, IsUpTo}
use Rattle.esc_envelope.specs.PlaceLaws.{one_type, one_place}
use Rattle.esc_chain.specs.declared.gap.GapLine.{GapLine}
use Rattle.esc_chain.specs.Chain.{IsBy}
use Rattle.esc_chain.specs.Gap.{places_of}
use Rattle.esc_acceptance.specs.Acceptance.{is_by, is_after, is_end}

-- the test of a moment
by_test : (t : Option ℤ) (w : ℤ) → IsBy t w → is_by t w ≡ true
by_test None w by = refl
by_test (Some t) w by = grind (arith, ints)

-- a number that is not less and not equal is less the other way round
not_less : (v w : ℤ) → int_lt w v ≡ false → (v <ℤ w) ⊎ (v ≡ w)
not_less v w e = by_equal (int_eq v w) refl
  where
    by_equal : (b : Bool) → int_eq v w ≡ b → (v <ℤ w) ⊎ (v ≡ w)
    by_equal true is = inr ((Decides-int_eq v w).0 is)
    by_equal false is = inl (grind (arith, ints))

-- a place that isn't after another is up to it
up_to : (p q : Place) → is_after p q ≡ false → IsUpTo p q
up_to p q e =
    let both = or_parts (int_lt q.watermark p.watermark) _ e in
    by_order both.1 (not_less p.watermark q.watermark both.0)
  where
    by_rank : p.watermark ≡ q.watermark → nat_lt (rank q.kind) (rank p.kind) ≡ false
        → (rank p.kind ≡ rank q.kind) ⊎ (rank p.kind ≡ rank q.kind → ⊥) → IsUpTo p q
    by_rank same below (inl rank_same) = inr (one_place p q same (one_type p.kind q.kind rank_same))
    by_rank same below (inr differs) =
        let le = ltb-false (rank q.kind) (rank p.kind) below in
        inl (inr (same, omega (arith, le, differs)))

    by_order : (int_eq q.watermark p.watermark && nat_lt (rank q.kind) (rank p.kind)) ≡ false
        → (p.watermark <ℤ q.watermark) ⊎ (p.watermark ≡ q.watermark) → IsUpTo p q
    by_order unranked (inl less) = inl (inl less)
    by_order unranked (inr same) = by_parts (and_cases _ _ unranked)
      where
        by_parts : (int_eq q.watermark p.watermark ≡ false) ⊎ (nat_lt (rank q.kind) (rank p.kind) ≡ false)
            → IsUpTo p q
        by_parts (inl differs) =
            let equal = (Decides-int_eq q.watermark p.watermark).1 (sym same) in
            absurd (true≢false (sym equal ∙ differs))
        by_parts (inr below) = by_rank same below (cases_eq (rank p.kind) (rank q.kind))

-- what passes at the place of each line passes at each of the places
pub each_place : (t : Place → Bool) (lines : List GapLine) (p : Place)
    → list_all (λ (g : GapLine). t g.place) lines ≡ true → Contains (places_of lines) p → t p ≡ true
each_place t [] p all (k, below, is) = absurd (omega (arith, below))
each_place t (g ∷ lines) p all (zero, below, is) =
    ap t (sym is) ∙ (and_parts _ _ all).0
each_place t (g ∷ lines) p all (suc k, below, is) =
    each_place t lines p (and_parts _ _ all).1 (k, (omega (arith, below)), is)

-- where the test of the end passes, there is an end, and each place that counts is up to it
pub up_to_end : (t : Option ℤ) (lines : List GapLine) (end : Place) (p : Place)
    → is_end t lines (Some end) ≡ true → Contains (places_of lines) p → IsBy t p.watermark → IsUpTo p end
up_to_end t lines end p passes there by = up_to p end (by_parts (and_cases _ _
    (not-true _ (each_place (λ (x : Place). not (is_by t x.watermark && is_after x end)) lines p passes there))))
  where
    by_parts : (is_by t p.watermark ≡ false) ⊎ (is_after p end ≡ false) → is_after p end ≡ false
    by_parts (inl late) = absurd (true≢false (sym (by_test t p.watermark by) ∙ late))
    by_parts (inr after) = after

-- a row of which there is a place is there
pub some_row : (f : ℕ → Place) (o : Option ℕ) (p : Place) → option_map f o ≡ Some p
    → (r : ℕ) × (o ≡ Some r) × (f r ≡ p)
some_row f None p e = absurd (cc)
some_row f (Some r) p e = (r, refl, (cc))

-- the end of the chain is there where its test passes
pub there_is_end : (t : Option ℤ) (lines : List GapLine) (end : Option Place) → is_end t lines end ≡ true
    → (p : Place) × (end ≡ Some p)
there_is_end t lines None passes = absurd (true≢false (sym passes))
there_is_end t lines (Some p) passes = (p, refl)
