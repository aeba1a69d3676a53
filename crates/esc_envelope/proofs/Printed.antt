-- The text of a moment writes it.
use Rattle.std.proofs.Common.{◌≡◌, ℕ, zero, suc, ◌+◌, ◌-◌, ◌*◌, ◌/◌, ◌%◌, ◌^◌}
use Rattle.std.proofs.Common.{◌<◌, ◌≤◌, [], ◌∷◌, List, length, Bool, true, Some, None, refl, sym, ap}
use Rattle.std.proofs.Common.{◌∙◌, arith, inl, inr, ℤ, pos, negsuc}
use Rattle.std.specs.Prelude.{nat_lt, IsSome}
use Rattle.std.specs.Char.{is_ascii_digit}
use Rattle.std.specs.List.{list_all, prefix_len}
use Rattle.std.proofs.lemmas.Bool.{cases_Bool, ltb-true, lt-ltb}
use Rattle.std.proofs.lemmas.Bool.Decides.{nat_tests}
use Rattle.std.proofs.lemmas.Option.{cond_some}
use Rattle.std.proofs.lemmas.List.{append-nil}
use Rattle.jiff_core.proofs.SignedLemmas.{signed_arith}
use Rattle.jiff_fmt.specs.Reader.{fraction_value}
use Rattle.jiff_fmt.specs.Text.{fraction, significant, trailing_zeros}
use Rattle.jiff_fmt.proofs.ReaderLemmas.{fraction_value-nil}
use Rattle.jiff_fmt.proofs.TextLemmas.{places-read, places-end, trailing_zeros-le, trailing_zeros-mod}
use Rattle.jiff_fmt.proofs.TextLemmas.{significant-not_zero}
use Rattle.esc_envelope.specs.Moment.{is_clock, is_fraction, moment_text, IsWatermark}
use Rattle.esc_envelope.specs.Watermark.{IsInYears, clock_of, day_of, watermark_of, watermark_text_of}
use Rattle.esc_envelope.proofs.Calendar.{day_is_of}
use Rattle.esc_envelope.proofs.MomentReads.{watermark_again}

-- where all of a list passes, nothing stops a run
all_pass : (p : ℕ → Bool) (xs : List ℕ) → prefix_len p xs ≡ length xs → list_all p xs ≡ true
all_pass p [] e = refl
all_pass p (x ∷ xs) e =
    elim (cases_Bool (p x)) [
      | inl passes ↦ let rest : prefix_len p xs ≡ length xs = let more = rw passes at e in
          omega arith in rw passes (all_pass p xs rest)
      | inr stops ↦ absurd (let none = rw stops at e in omega arith)
    ]

-- the places of a fraction are digits, and worth n
pub record IsPrinted (n : ℕ) : Type 0 where
  pub form : 0 < length (fraction None n) → is_fraction (fraction None n) ≡ true
  pub value : fraction_value 9 (fraction None n) ≡ n

printed_zero : IsPrinted 0
printed_zero =
    let none : fraction None 0 ≡ [] = places-end 0 1_000_000_000 0 refl in
    record {
      form = λ some. absurd (omega (arith, ap (λ (l : List ℕ). length l) none));
      value = ap (fraction_value 9) none ∙ fraction_value-nil 9;
    }

printed_more : (n : ℕ) → 0 < n → n < 1_000_000_000 → IsPrinted n
printed_more n some low =
    let few = trailing_zeros-le 8 n in
    let count : significant n ≡ 9 - trailing_zeros 8 n = significant-not_zero n (λ e. omega arith) in
    let told = places-read (significant n) 9 n [] (omega arith) low in
    let left : 9 - significant n ≡ trailing_zeros 8 n = omega (arith, count, few) in
    let whole : n % 10 ^ (9 - significant n) ≡ 0 = ap (λ (k : ℕ). n % 10 ^ k) left ∙ trailing_zeros-mod 8 n in
    let run : prefix_len is_ascii_digit (fraction None n) ≡ length (fraction None n) =
    ap (prefix_len is_ascii_digit) (sym (append-nil (fraction None n))) ∙ told.0 ∙ omega (arith, told.1) in
    let digits = all_pass is_ascii_digit (fraction None n) run in
    let long : (0 < length (fraction None n)) × (length (fraction None n) ≤ 9) =
    (omega (arith, told.1, count, few), omega (arith, told.1, count, few)) in
    record {
      form = λ nonempty. grind (arith, nat_tests, digits, long.0, long.1);
      value = omega (arith, told.2, whole);
    }

-- a number of nanoseconds is printed as its fraction
pub is_printed : (n : ℕ) → n < 1_000_000_000 → IsPrinted n
is_printed zero low = printed_zero
is_printed (suc n) low = printed_more (suc n) (omega arith) low

-- a day, an hour, a minute, a second and the rest make up a moment
split_moment : (n : ℕ) → n ≡ n / 86_400_000_000_000 * 86_400_000_000_000
    + (((n % 86_400_000_000_000 / 3_600_000_000_000) * 3600 + (n % 86_400_000_000_000 / 60_000_000_000
    % 60) * 60 + n % 86_400_000_000_000 / 1_000_000_000 % 60) * 1_000_000_000 + n % 1_000_000_000)
split_moment n = omega arith

clock_is : (r : ℕ) → r < 86_400_000_000_000 → is_clock (clock_of r) ≡ true
clock_is r low =
    let hour : r / 3_600_000_000_000 < 24 = omega arith in
    let minute : r / 60_000_000_000 % 60 < 60 = omega arith in
    let second : r / 1_000_000_000 % 60 < 60 = omega arith in
    rw (lt-ltb _ _ hour, lt-ltb _ _ minute, lt-ltb _ _ second) refl

watermark_printed : (w : ℤ) (text : List ℕ) → watermark_text_of w ≡ Some text → IsWatermark text w
unfolding watermark_text_of
watermark_printed (negsuc n) text e = absurd cc
watermark_printed (pos n) text e =
    let day = day_of (n / 86_400_000_000_000) in
    let clock = clock_of (n % 86_400_000_000_000) in
    let digits = fraction None (n % 1_000_000_000) in
    let told = cond_some (nat_lt n 9_214_646_400_000_000_000) (moment_text day clock digits) text e in
    let low : n < 9_214_646_400_000_000_000 = ltb-true _ _ told.0 in
    let day_told = day_is_of (n / 86_400_000_000_000) (omega arith) in
    let printed = is_printed (n % 1_000_000_000) (omega arith) in
    record {
      day = day;
      clock = clock;
      fraction = digits;
      real = day_told.real;
      timed = clock_is (n % 86_400_000_000_000) (omega arith);
      digits = printed.form;
      written = sym told.1;
      value = rw (printed.value, day_told.number) (omega (arith, signed_arith, split_moment n));
    }

-- the text of a moment is read back
pub watermark_read_back : (w : ℤ) (text : List ℕ)
    → watermark_text_of w ≡ Some text → watermark_of text ≡ Some w
watermark_read_back w text e = watermark_again text w (watermark_printed w text e)

-- a moment of the years has a text
pub watermark_has_text : (w : ℤ) → IsInYears w → IsSome (watermark_text_of w)
unfolding watermark_text_of
watermark_has_text (negsuc n) years = absurd (omega (arith, signed_arith))
watermark_has_text (pos n) years =
    let low : n < 9_214_646_400_000_000_000 = omega (arith, signed_arith) in
    rw (lt-ltb _ _ low) refl
