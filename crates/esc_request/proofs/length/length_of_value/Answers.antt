use Rattle.std.proofs.Common.{◌≡◌, ℕ, ◌≤◌, ◌<◌, ◌+◌, ◌-◌, ◌*◌, sym, get_or, arith, inl}
use Rattle.std.proofs.Common.{inr}
use Rattle.std.proofs.lemmas.Bool.{cases_lt}
use Rattle.std.proofs.lemmas.Int.Digits.{digits_value_more}
use Rattle.esc_request.proofs.LengthLemmas.{digit_value_is, digits_more}
use Rattle.esc_request.proofs.length.length_of_value.Goals as goal

-- the number with one more digit, from the number before it
module _ (value new before after byte digit : ℕ)
    (grows : value ≤ 16777216 → new ≡ value * 10 + (byte - 48)) (stays : 16777216 < value → new ≡ value)
    (step : after ≡ before * 10 + digit) (is : digit + 48 ≡ byte) where
  small_more : (value ≤ 16777216 → value ≡ before)
      → (16777216 < value → 16777216 < before) → new ≤ 16777216 → new ≡ after
  small_more small large low = elim (cases_lt 16777216 value) [
    | inl past ↦ let same = stays past in absurd (omega arith)
    | inr within ↦
        let within' : value ≤ 16777216 = omega arith in
        let same = small within' in
        let now = grows within' in
        omega arith
  ]

  large_more : (value ≤ 16777216 → value ≡ before)
      → (16777216 < value → 16777216 < before) → 16777216 < new → 16777216 < after
  large_more small large high = elim (cases_lt 16777216 value) [
    | inl past ↦ let was = large past in omega arith
    | inr within ↦
        let within' : value ≤ 16777216 = omega arith in
        let same = small within' in
        let now = grows within' in
        omega arith
  ]

pub loop-byte-preserved : goal.loop-byte-preserved
loop-byte-preserved c =
    let text = c.args.text.now in
    let i = c.loop-byte.byte-index in
    let byte = get_or text i 0 in
    let step = digits_value_more 10 text i c.loop-byte-test.true in
    let is_digit = c.if-not-is_ascii_digit.ensures in
    let digit = digit_value_is byte is_digit.cases.0 is_digit.cases.1 in
    let grows = c.with_digit-value.ensures.grows in
    let stays = c.with_digit-value.ensures.stays in
    record {
      numeral = digits_more text i c.loop-byte-test.true c.loop-byte.invariant.numeral (sym is_digit.value);
      small = small_more c.loop-byte.value
          _ _ _ byte _ grows stays step digit c.loop-byte.invariant.small c.loop-byte.invariant.large;
      large = large_more c.loop-byte.value
          _ _ _ byte _ grows stays step digit c.loop-byte.invariant.small c.loop-byte.invariant.large;
    }
