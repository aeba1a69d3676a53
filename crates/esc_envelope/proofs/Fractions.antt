-- The digits of a fraction, and what they are worth.
use Rattle.std.proofs.Common.{◌≡◌, ℕ, ◌+◌, ◌-◌, ◌*◌, ◌/◌, ◌^◌, ◌<◌, ◌≤◌, true}
use Rattle.std.proofs.Common.{List, length, drop, get_or, sym, ap, ◌∙◌, arith, inl, inr}
use Rattle.std.proofs.Math.Nat.{mul-le-mul_right}
use Rattle.std.proofs.lemmas.Bool.{cases_Bool}
use Rattle.std.proofs.lemmas.Bool.Decides.{nat_tests}
use Rattle.std.proofs.lemmas.List.{at_drop_all}
use Rattle.std.proofs.lemmas.List.Folds.{list_all_at}
use Rattle.std.specs.Char.{is_ascii_digit}
use Rattle.std.specs.List.{list_all}
use Rattle.jiff_fmt.specs.Reader.{fraction_value}
use Rattle.jiff_fmt.proofs.ReaderLemmas.{tenth, ten_pow-pos, fraction_value-nil, fraction_value-drop}
use Rattle.esc_envelope.specs.Moment.{is_fraction}

-- a digit is at most 9
pub digit_at : (digits : List ℕ) (i : ℕ)
    → is_fraction digits ≡ true → i < length digits → get_or digits i 0 - 48 ≤ 9
digit_at digits i fraction inside =
    let all : list_all is_ascii_digit digits ≡ true = grind (arith, nat_tests, fraction) in
    elim (cases_Bool (is_ascii_digit (get_or digits i 0))) [
      | inl digit ↦ grind (arith, nat_tests, digit)
      | inr other ↦ let none = list_all_at is_ascii_digit digits i 0 inside other in absurd (cc)
    ]

-- a fraction has nine digits at most
pub length_at_most : (digits : List ℕ) → is_fraction digits ≡ true → length digits ≤ 9
length_at_most digits fraction = grind (arith, nat_tests, fraction)

-- what is known before digit i: its place is ten times the one to come, and what the digits so far
-- are worth
pub record IsReadUpTo (digits : List ℕ) (i v p : ℕ) : Type 0 where
  pub place : p ≡ 10 ^ (9 - i)
  pub value : v + fraction_value (9 - i) (drop i digits) ≡ fraction_value 9 digits
  pub small : v + p ≤ 1_000_000_000

tenth_is : (i place : ℕ)
    → i < 9 → place ≡ 10 ^ (9 - i) → (place / 10 ≡ 10 ^ (9 - (i + 1))) × (place ≡ 10 * (place / 10))
tenth_is i place low is =
    let whole : 10 ^ (9 - i) ≡ 10 * 10 ^ (9 - (i + 1)) = tenth (9 - i) (9 - (i + 1)) (omega arith) in
    (omega (arith, whole, is), omega (arith, whole, is))

-- one more digit is read
pub next_digit : (digits : List ℕ) (i value place : ℕ)
    → is_fraction digits ≡ true → i < length digits → IsReadUpTo digits i value place
    → IsReadUpTo digits (i + 1) (value + (get_or digits i 0 - 48) * (place / 10)) (place / 10)
next_digit digits i value place fraction inside known =
    let few = length_at_most digits fraction in
    let tenths = tenth_is i place (omega arith) known.place in
    let digit = digit_at digits i fraction inside in
    let worth = mul-le-mul_right (place / 10) digit in
    let cut = fraction_value-drop (9 - i) (9 - (i + 1)) digits i (omega arith) inside in
    let same : (get_or digits i 0 - 48) * 10 ^ (9 - (i + 1)) ≡ (get_or digits i 0 - 48) * (place / 10) =
    ap (λ (p : ℕ). (get_or digits i 0 - 48) * p) (sym tenths.0) in
    record {
      place = tenths.0;
      value = omega (arith, known.value, cut, same);
      small = omega (arith, known.small, tenths.1, worth);
    }

-- at the end the fraction's value is read
pub all_read : (digits : List ℕ) (i value place : ℕ)
    → length digits ≤ i → IsReadUpTo digits i value place → value ≡ fraction_value 9 digits
all_read digits i value place past known =
    let left : fraction_value (9 - i) (drop i digits) ≡ 0 =
    at_drop_all (fraction_value (9 - i)) digits i past ∙ fraction_value-nil (9 - i) in
    omega (arith, known.value, left)

-- the value stays below a second
pub stays_small : (digits : List ℕ) (i value place : ℕ)
    → IsReadUpTo digits i value place → value < 1_000_000_000
stays_small digits i value place known = omega (arith, known.small, known.place, ten_pow-pos (9 - i))
