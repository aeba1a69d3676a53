-- The computed front is that of the longest common beginning.
use Rattle.std.proofs.Common.{◌≡◌, ℕ, zero, suc, ◌≤◌, Bool, true, false, cond, List, [], ◌∷◌}
use Rattle.std.proofs.Common.{length, refl, sym, ap, ap₂, subst, ◌∙◌, arith}
use Rattle.std.specs.Bool.{Decides}
use Rattle.std.specs.List.{take_while, zip}
use Rattle.std.proofs.lemmas.List.Sums.{take_while-cons}
use Rattle.std.proofs.lemmas.Bool.Decides.{Decides-int_eq, Decides-eqb, Decides-and, Decides-like}
use Rattle.esc_envelope.specs.declared.place.Place.{Place}
use Rattle.esc_envelope.specs.Place.{rank}
use Rattle.esc_apply.specs.declared.front.Step.{Step}
use Rattle.esc_apply.specs.Front.{mark, IsCommon, IsCommonFront, same_step, common_front}
use Rattle.esc_envelope.specs.PlaceLaws.{one_type}

-- the test on steps says whether they have one place and one resend
compares : (a b : Step) → Decides (same_step (a, b)) (mark a ≡ mark b)
compares a b =
    let places = Decides-and _ _ (Decides-int_eq a.place.watermark b.place.watermark)
    (Decides-eqb (rank a.place.kind) (rank b.place.kind)) in
    Decides-like _ (λ e. together e.0.0 (one_type _ _ e.0.1) e.1)
    (λ e. (
      (ap (λ (m : Place × ℕ). m.0.watermark) e, ap (λ (m : Place × ℕ). rank m.0.kind) e),
      ap (λ (m : Place × ℕ). m.1) e,
    ))
    (Decides-and _ _ places (Decides-eqb a.resend b.resend))
  where
    together : a.place.watermark ≡ b.place.watermark
        → a.place.kind ≡ b.place.kind → a.resend ≡ b.resend → mark a ≡ mark b
    together w k n = λ i. (record { watermark = w i; kind = k i }, n i)

-- one pair more, or the end
front_cons : (a b : Step) (old new : List Step)
    → common_front (a ∷ old) (b ∷ new) ≡ cond (same_step (a, b)) (suc (common_front old new)) 0
front_cons a b old new = ap length (take_while-cons same_step (a, b) (zip old new)) ∙ by_test (same_step (a, b))
  where
    by_test : (t : Bool) → length (cond t ((a, b) ∷ take_while same_step (zip old new)) [])
        ≡ cond t (suc (length (take_while same_step (zip old new)))) 0
    by_test true = refl
    by_test false = refl

-- a common beginning of two lists with a first step each
common_more : (a b : Step) (old new : List Step) (n : ℕ)
    → mark a ≡ mark b → IsCommon old new n → IsCommon (a ∷ old) (b ∷ new) (suc n)
common_more a b old new n first c = record {
  in_old = omega (arith, c.in_old);
  in_new = omega
      (arith, c.in_new);
  same = ap₂ (λ (m : Place × ℕ) (l : List (Place × ℕ)). m ∷ l) first c.same;
}

common_first : (a b : Step) (old new : List Step) (n : ℕ)
    → IsCommon (a ∷ old) (b ∷ new) (suc n) → mark a ≡ mark b
common_first a b old new n c = let e = c.same in cc

common_rest : (a b : Step) (old new : List Step) (n : ℕ)
    → IsCommon (a ∷ old) (b ∷ new) (suc n) → IsCommon old new n
common_rest a b old new n c = let e = c.same in
    record { in_old = omega (arith, c.in_old); in_new = omega (arith, c.in_new); same = cc }

-- the front of two lists with a first step each
front_more : (a b : Step) (old new : List Step) (t : Bool)
    → same_step (a, b) ≡ t → IsCommonFront old new (common_front old new)
    → IsCommonFront (a ∷ old) (b ∷ new) (cond t (suc (common_front old new)) 0)
front_more a b old new true e rest = record {
  common = common_more a b old new _ ((compares a b).0 e) rest.common;
  longest = longest;
}
  where
    longest : (n : ℕ) → IsCommon (a ∷ old) (b ∷ new) n → n ≤ suc (common_front old new)
    longest zero c = omega arith
    longest (suc n) c = omega (arith, rest.longest n (common_rest a b old new n c))
front_more a b old new false e rest = record {
  common = record { in_old = omega arith; in_new = omega arith; same = refl };
  longest = longest;
}
  where
    longest : (n : ℕ) → IsCommon (a ∷ old) (b ∷ new) n → n ≤ 0
    longest zero c = omega arith
    longest (suc n) c = let is = (compares a b).1 (common_first a b old new n c) in absurd (cc (is, e))

-- the common front that is counted is the longest
pub is_common_front : (old new : List Step) → IsCommonFront old new (common_front old new)
is_common_front [] new = record {
  common = record {
    in_old = omega arith;
    in_new = omega arith;
    same = refl;
  };
  longest = λ n c. c.in_old;
}
is_common_front (a ∷ old) [] = record {
  common = record {
    in_old = omega arith;
    in_new = omega arith;
    same = refl;
  };
  longest = λ n c. c.in_new;
}
is_common_front (a ∷ old) (b ∷ new) = subst (IsCommonFront (a ∷ old) (b ∷ new))
    (sym (front_cons a b old new)) (front_more a b old new _ refl (is_common_front old new))
