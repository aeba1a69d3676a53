-- What `jiff` writes of a civil datetime is the text of its moment.
use Rattle.std.proofs.Common.{◌≡◌, ℕ, zero, suc, ◌+◌, ◌*◌, ◌/◌, ◌%◌, ◌<◌, ◌≤◌}
use Rattle.std.proofs.Common.{◌++◌, [], ◌∷◌, List, length, true, false, Some, None, refl, sym, ap}
use Rattle.std.proofs.Common.{◌∙◌, ne_eqb, arith, inl, inr, ℤ, pos, negsuc}
use Rattle.std.specs.Prelude.{nat_lt, nat_le, ◌==◌}
use Rattle.std.proofs.lemmas.Bool.{leb-true, lt-ltb, cases_Bool, ltb-true, and_parts}
use Rattle.jiff.specs.Names.{iso_datetime_text}
use Rattle.jiff_core.specs.declared.civil.date.Date.{Date}
use Rattle.jiff_core.specs.declared.civil.time.Time.{Time}
use Rattle.jiff_core.specs.declared.civil.datetime.DateTime.{DateTime}
use Rattle.jiff_core.specs.Calendar.{days_in_month}
use Rattle.jiff_core.specs.Date.{epoch_day}
use Rattle.jiff_core.specs.DateTime.{civil_nanos}
use Rattle.jiff_core.specs.Time.{time_nanos}
use Rattle.jiff_core.proofs.SignedLemmas.{signed_arith}
use Rattle.jiff_core.proofs.DateLemmas.{epoch_day_injective}
use Rattle.jiff_core.proofs.DateTimeLemmas.{civil_nanos-parts, time_nanos_bound}
use Rattle.jiff_fmt.specs.Text.{fraction, fraction_part, significant}
use Rattle.jiff_fmt.proofs.TextLemmas.{places-end, places-read, significant-not_zero, trailing_zeros-le}
use Rattle.esc_envelope.specs.declared.parts.Day.{Day}
use Rattle.esc_envelope.specs.Moment.{is_day, fraction_text, moment_text}
use Rattle.esc_envelope.specs.Watermark.{IsInYears, clock_of, day_of, watermark_text_of}
use Rattle.esc_envelope.proofs.Calendar.{day_is_of}
use Rattle.esc_envelope.proofs.MomentReads.{some_of}

dotted : (digits : List ℕ) → 0 < length digits → fraction_text digits ≡ 46 ∷ digits
dotted [] some = absurd (omega arith)
dotted (d ∷ ds) some = refl

fraction_shown : (n : ℕ) → n < 1_000_000_000 → fraction_text (fraction None n) ≡ fraction_part None n
fraction_shown zero low = ap fraction_text (places-end 0 1_000_000_000 0 refl)
fraction_shown (suc n) low =
    let few = trailing_zeros-le 8 (suc n) in
    let count = significant-not_zero (suc n) (λ e. omega arith) in
    let told = places-read (significant (suc n)) 9 (suc n) [] (omega arith) low in
    let nonzero : (suc n == 0) ≡ false = ne_eqb (suc n) 0 (λ e. omega arith) in
    dotted (fraction None (suc n)) (omega (arith, told.1, count, few)) ∙ rw nonzero refl

-- the date of a day of the calendar
date_of : (d : Day) → is_day d ≡ true
    → (date : Date) × (date.year ≡ pos d.year) × (date.month ≡ d.month) × (date.day ≡ d.day)
date_of d real =
    let last = and_parts _ (nat_le d.day (days_in_month (pos d.year) d.month)) real in
    let first = and_parts _ (nat_le 1 d.day) last.0 in
    let most = and_parts _ (nat_le d.month 12) first.0 in
    let least = and_parts _ (nat_le 1 d.month) most.0 in
    let years = and_parts (nat_le 1970 d.year) (nat_le d.year 2261) least.0 in
    let year : d.year ≤ 2261 = leb-true _ _ years.1 in
    let date : Date = record {
      year = pos d.year;
      month = d.month;
      day = d.day;
      year_in = (omega (arith, signed_arith, year), omega (arith, signed_arith, year));
      month_in = (leb-true _ _ least.1, leb-true _ _ most.1);
      day_in = (leb-true _ _ first.1, leb-true _ _ last.1);
    } in
    (date, refl, refl, refl)

-- the parts of a civil datetime of these years
pub record AreParts (civil : DateTime) (n : ℕ) : Type 0 where
  pub year : civil.date.year ≡ pos (day_of (n / 86_400_000_000_000)).year
  pub month : civil.date.month ≡ (day_of (n / 86_400_000_000_000)).month
  pub day : civil.date.day ≡ (day_of (n / 86_400_000_000_000)).day
  pub hour : civil.time.hour ≡ n % 86_400_000_000_000 / 3_600_000_000_000
  pub minute : civil.time.minute ≡ n % 86_400_000_000_000 / 60_000_000_000 % 60
  pub second : civil.time.second ≡ n % 86_400_000_000_000 / 1_000_000_000 % 60
  pub fraction : civil.time.subsec_nanosecond ≡ n % 1_000_000_000

abbrev seconds_of : Time → ℕ
seconds_of t = t.hour * 3600 + t.minute * 60 + t.second

are_parts : (civil : DateTime) (n : ℕ)
    → civil_nanos civil ≡ pos n → n < 9_214_646_400_000_000_000 → AreParts civil n
are_parts civil n value low =
    let parts = civil_nanos-parts civil in
    let bound = time_nanos_bound civil.time in
    let days : epoch_day civil.date ≡ pos (n / 86_400_000_000_000) =
    omega (arith, signed_arith, parts, bound, value) in
    let left : time_nanos civil.time ≡ n % 86_400_000_000_000 =
    omega (arith, signed_arith, parts, bound, value, days) in
    let day_told = day_is_of (n / 86_400_000_000_000) (omega arith) in
    let made = date_of (day_of (n / 86_400_000_000_000)) day_told.real in
    let same_number : epoch_day civil.date ≡ epoch_day made.0 =
    days ∙ sym day_told.number ∙ rw (made.1, made.2, made.3) refl in
    let same = epoch_day_injective civil.date made.0 same_number in
    let seconds : seconds_of civil.time ≡ n % 86_400_000_000_000 / 1_000_000_000 =
    omega (arith, left, civil.time.subsec_in) in
    record {
      year = same.0 ∙ made.1;
      month = same.1 ∙ made.2;
      day = same.2 ∙ made.3;
      hour = omega (arith, seconds, civil.time.hour_in, civil.time.minute_in, civil.time.second_in);
      minute = omega (arith, seconds, civil.time.hour_in, civil.time.minute_in, civil.time.second_in);
      second = omega (arith, seconds, civil.time.hour_in, civil.time.minute_in, civil.time.second_in);
      fraction = omega (arith, left, civil.time.subsec_in);
    }

-- what the library prints of a moment of the years is its text
pub shown : (civil : DateTime) (w : ℤ) → civil_nanos civil ≡ w
    → IsInYears w → watermark_text_of w ≡ Some (iso_datetime_text civil ++ (90 ∷ []))
unfolding watermark_text_of
shown civil (negsuc n) value years = absurd (omega (arith, signed_arith))
shown civil (pos n) value years =
    let low : n < 9_214_646_400_000_000_000 = omega (arith, signed_arith) in
    let parts = are_parts civil n value low in
    let fraction_is = fraction_shown (n % 1_000_000_000) (omega arith) in
    let text : moment_text (day_of (n / 86_400_000_000_000)) (clock_of (n % 86_400_000_000_000))
    (fraction None (n % 1_000_000_000)) ≡ iso_datetime_text civil ++ (90 ∷ []) =
    rw (parts.year, parts.month, parts.day, parts.hour, parts.minute, parts.second, parts.fraction, fraction_is) refl in
    rw (lt-ltb _ _ low) (ap (λ (l : List ℕ). some_of l) text)

-- a moment outside of the years has no text
pub not_shown : (w : ℤ) → (IsInYears w → ⊥) → None ≡ watermark_text_of w
unfolding watermark_text_of
not_shown (negsuc n) out = refl
not_shown (pos n) out =
    elim (cases_Bool (nat_lt n 9_214_646_400_000_000_000)) [
      | inl inside ↦
          let low : n < 9_214_646_400_000_000_000 = ltb-true _ _ inside in
          absurd (out (omega (arith, signed_arith), omega (arith, signed_arith)))
      | inr outside ↦ rw outside refl
    ]
