-- The nanoseconds of the years 1970 to 2261.
use Rattle.esc_envelope.proofs.Calendar.{last_day}
use Rattle.std.proofs.Common.{◌≡◌, ℕ, ◌<◌, ℤ, pos, ◌<ℤ◌, ◌≤ℤ◌, refl, arith}
use Rattle.jiff_core.specs.declared.civil.datetime.DateTime.{DateTime}
use Rattle.jiff_core.specs.Calendar.{IsBetween, IsCivilDate, days_from_civil, day_count, days_of_years, days_of_months}
use Rattle.jiff_core.specs.DateTime.{civil_nanos}
use Rattle.jiff_core.proofs.SignedLemmas.{signed_arith}
use Rattle.jiff_core.proofs.CalendarLemmas.{day_count-lt_year, days_from_civil-day_count}
use Rattle.jiff_core.proofs.DateTimeLemmas.{civil_nanos-parts, time_nanos_bound}
use Rattle.esc_envelope.specs.Watermark.{IsInYears}

-- 31 December 1969
before_first : day_count (pos 1969) 12 31 ≡ 4_371_952
unfolding day_count days_of_years days_of_months
before_first = refl

-- the days of the years have small numbers
pub days_in_range : (y : ℤ) (m d : ℕ) → IsCivilDate y m d → IsBetween (pos 1970) (pos 2261) y
    → (pos 0 ≤ℤ days_from_civil y m d) × (days_from_civil y m d <ℤ pos 106_651)
days_in_range y m d date years =
    let below : day_count y m d < day_count (pos 2262) 1 1 =
    day_count-lt_year y m d (pos 2262) 1 1 date (omega arith) (omega (arith, signed_arith)) in
    let december : IsCivilDate (pos 1969) 12 31 = (
      (
        omega (arith, signed_arith),
        omega (arith, signed_arith),
      ),
      (omega arith, omega arith),
      (omega arith, omega arith),
    ) in
    let above : day_count (pos 1969) 12 31 < day_count y m d =
    day_count-lt_year (pos 1969) 12 31 y m d december date.2.0 (omega (arith, signed_arith)) in (
      omega (arith, signed_arith, days_from_civil-day_count y m d, above, before_first),
      omega (arith, signed_arith, days_from_civil-day_count y m d, below, last_day),
    )

-- a date of the years is a moment of the years
pub civil_in_years : (civil : DateTime)
    → IsBetween (pos 1970) (pos 2261) civil.date.year → IsInYears (civil_nanos civil)
civil_in_years civil years =
    let days = days_in_range civil.date.year civil.date.month
    civil.date.day (civil.date.year_in, civil.date.month_in, civil.date.day_in) years in (
      omega (arith, signed_arith, civil_nanos-parts civil, time_nanos_bound civil.time, days),
      omega (arith, signed_arith, civil_nanos-parts civil, time_nanos_bound civil.time, days),
    )
