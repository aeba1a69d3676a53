-- What a status of 0 says of the tests.
use Rattle.std.proofs.Common.{◌≡◌, ℕ, Bool, true, false, cond, ◌||◌, List, [], ◌∷◌}
use Rattle.std.proofs.Common.{refl, arith}
use Rattle.std.specs.List.{list_all}
use Rattle.std.proofs.lemmas.Bool.{and_parts, and_from, or_right}
use Rattle.std.proofs.lemmas.List.Sums.{AllPass-from_list_all}
use Rattle.esc_acceptance.specs.declared.test.Test.{Test}
use Rattle.esc_acceptance.specs.declared.test.Test.TheVariants as test
use Rattle.esc_acceptance.specs.Acceptance.{SeenValue, tests, passes, is_told_alone, is_accepted, status_of}

-- a choice of 0 was made
chosen_zero : (b : Bool) → ◌≡◌ {A = ℕ} (cond b 0 1) 0 → b ≡ true
chosen_zero true e = refl
chosen_zero false e = absurd (omega (arith, e))

-- where all tests pass, they do but for those that are only told
all_but_told : (s : SeenValue) (ts : List Test) → list_all (λ t. passes t s) ts ≡ true
    → list_all (λ t. is_told_alone t || passes t s) ts ≡ true
all_but_told s [] all = refl
all_but_told s (t ∷ ts) all =
    let both = and_parts (passes t s) (list_all (λ t. passes t s) ts) all in
    and_from _ _ (or_right (is_told_alone t) (passes t s) both.0) (all_but_told s ts both.1)

-- where the status is 0, the registry may be taken over
zero_accepts : (is_strict : Bool) (s : SeenValue) → status_of is_strict s ≡ 0 → is_accepted s ≡ true
zero_accepts true s zero = all_but_told s tests (chosen_zero (list_all (λ t. passes t s) tests) zero)
zero_accepts false s zero = chosen_zero (is_accepted s) zero

module _ (is_strict : Bool) (s : SeenValue) (zero : status_of is_strict s ≡ 0) where
  -- the end of the chain is the greatest place
  pub end_passes : passes test.End s ≡ true
  unfolding tests
  end_passes = AllPass-from_list_all (λ t. is_told_alone t || passes t s) tests
      (zero_accepts is_strict s zero) 1 test.Tld (omega arith)

  -- no later revision is awaited
  pub resends_pass : passes test.Resends s ≡ true
  unfolding tests
  resends_pass = AllPass-from_list_all (λ t. is_told_alone t || passes t s) tests
      (zero_accepts is_strict s zero) 4 test.Tld (omega arith)

  -- there is no finding
  pub findings_pass : passes test.Findings s ≡ true
  unfolding tests
  findings_pass = AllPass-from_list_all (λ t. is_told_alone t || passes t s) tests
      (zero_accepts is_strict s zero) 9 test.Tld (omega arith)

  -- there is no orphan
  pub orphans_pass : passes test.Orphans s ≡ true
  unfolding tests
  orphans_pass = AllPass-from_list_all (λ t. is_told_alone t || passes t s) tests
      (zero_accepts is_strict s zero) 17 test.Tld (omega arith)
