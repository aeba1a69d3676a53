-- The day that a day number names.
use Rattle.std.proofs.Common.{◌≡◌, ℕ, zero, suc, ◌+◌, ◌-◌, ◌<◌, ◌≤◌, true, refl, ap, arith}
use Rattle.std.proofs.Common.{inl, inr, ℤ, pos}
use Rattle.std.specs.Prelude.{nat_lt}
use Rattle.std.proofs.lemmas.Bool.{cases_Bool, ltb-true, ltb-false}
use Rattle.std.proofs.lemmas.Bool.Decides.{nat_tests}
use Rattle.jiff_core.specs.Calendar.{day_count, days_of_years, days_of_months, days_in_month}
use Rattle.jiff_core.specs.Calendar.{days_in_year, days_from_civil}
use Rattle.jiff_core.proofs.SignedLemmas.{signed_arith}
use Rattle.jiff_core.proofs.CalendarLemmas.{day_count-epoch, day_count-next_year, day_count-day_of_year}
use Rattle.jiff_core.proofs.CalendarLemmas.{days_of_months_more, days_of_months_all}
use Rattle.jiff_core.proofs.CalendarLemmas.{days_of_months-zero, days_from_civil-day_count}
use Rattle.esc_envelope.specs.declared.parts.Day.{Day}
use Rattle.esc_envelope.specs.Moment.{is_day}
use Rattle.esc_envelope.specs.Watermark.{year_at, month_at, day_of}

-- y is the year, before `last`, and the place in it of day n of the years from `first` on
pub record IsYearAt (first last n : ℕ) (y : ℕ × ℕ) : Type 0 where
  pub low : first ≤ y.0
  pub high : y.0 < last
  pub inside : y.1 < days_in_year (pos y.0)
  pub same : day_count (pos y.0) 1 1 + y.1 ≡ day_count (pos first) 1 1 + n

next_start : (first : ℕ) → day_count (pos (suc first)) 1 1 ≡ day_count (pos first) 1 1 + days_in_year (pos first)
next_start first = day_count-next_year (pos first)
    (pos (suc first)) (omega (arith, signed_arith)) (omega (arith, signed_arith))

-- the year that is searched for is the year of the day
pub year_is_at : (count first last n : ℕ) → first + count ≡ last → day_count (pos first) 1 1 + n
    < day_count (pos last) 1 1 → IsYearAt first last n (year_at count first n)
unfolding year_at
year_is_at zero first last n ends before =
    let same : day_count (pos first) 1 1 ≡ day_count (pos last) 1 1 =
    ap (λ (y : ℕ). day_count (pos y) 1 1) (omega arith) in
    absurd (omega (arith, same))
year_is_at (suc count) first last n ends before =
    elim (cases_Bool (nat_lt n (days_in_year (pos first)))) [
      | inl here ↦ rw here (record { low = omega arith; high = omega arith; inside = ltb-true _ _ here; same = refl })
      | inr later ↦
          let past : days_in_year (pos first) ≤ n = ltb-false _ _ later in
          let start = next_start first in
          let rest = year_is_at count (suc first) last (n - days_in_year (pos first))
          (omega arith) (omega (arith, start, past)) in
          rw later (record {
            low = omega (arith, rest.low);
            high = rest.high;
            inside = rest.inside;
            same = omega (arith, rest.same, start, past);
          })
    ]

-- m is the month and the place in it of day n of the months of the year from `first` on
pub record IsMonthAt (year : ℤ) (first n : ℕ) (m : ℕ × ℕ) : Type 0 where
  pub low : first ≤ m.0
  pub high : m.0 ≤ 12
  pub inside : m.1 < days_in_month year m.0
  pub same : days_of_months year (m.0 - 1) + m.1 ≡ days_of_months year (first - 1) + n

-- the month that is searched for is the month of the day
pub month_is_at : (count : ℕ) (year : ℤ) (first n : ℕ)
    → 1 ≤ first → first + count ≡ 13 → days_of_months year (first - 1) + n < days_of_months year 12
    → IsMonthAt year first n (month_at count year first n)
unfolding month_at
month_is_at zero year first n some ends before =
    let same : days_of_months year (first - 1) ≡ days_of_months year 12 = ap (days_of_months year) (omega arith) in
    absurd (omega (arith, same))
month_is_at (suc count) year first n some ends before =
    elim (cases_Bool (nat_lt n (days_in_month year first))) [
      | inl here ↦ rw here (record { low = omega arith; high = omega arith; inside = ltb-true _ _ here; same = refl })
      | inr later ↦
          let past : days_in_month year first ≤ n = ltb-false _ _ later in
          let more = days_of_months_more year first some in
          let start : days_of_months year (suc first - 1) ≡ days_of_months year first =
          ap (days_of_months year) (omega arith) in
          let rest = month_is_at count year (suc first) (n - days_in_month year first)
          (omega arith) (omega arith) (omega (arith, start, more, past)) in
          rw later (record {
            low = omega (arith, rest.low);
            high = rest.high;
            inside = rest.inside;
            same = omega (arith, rest.same, start, more, past);
          })
    ]

-- 1 January 2262
pub last_day : day_count (pos 2262) 1 1 ≡ 4_478_604
unfolding day_count days_of_years days_of_months
last_day = refl

-- a day of the calendar with this day number
pub record IsDayOf (n : ℕ) (d : Day) : Type 0 where
  pub real : is_day d ≡ true
  pub number : days_from_civil (pos d.year) d.month d.day ≡ pos n

-- the day that is made of a number has it
pub day_is_of : (n : ℕ) → n < 106_651 → IsDayOf n (day_of n)
unfolding day_of
day_is_of n low =
    let year = year_is_at 292 1970 2262 n refl (omega (arith, day_count-epoch, last_day)) in
    let y = year_at 292 1970 n in
    let none = days_of_months-zero (pos y.0) in
    let all = days_of_months_all (pos y.0) in
    let month = month_is_at 12 (pos y.0) 1 y.1 (omega arith) refl (omega (arith, none, all, year.inside)) in
    let m = month_at 12 (pos y.0) 1 y.1 in
    let place = day_count-day_of_year (pos y.0) m.0 (m.1 + 1) (omega arith) in
    let number = days_from_civil-day_count (pos y.0) m.0 (m.1 + 1) in
    let count : day_count (pos y.0) m.0 (m.1 + 1) ≡ 4_371_953 + n =
    omega (arith, place, month.same, none, year.same, day_count-epoch) in
    record {
      real = grind (arith, nat_tests, year.low, year.high, month.low, month.high, month.inside);
      number = omega (arith, signed_arith, number, count);
    }
