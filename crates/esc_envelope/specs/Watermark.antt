-- Watermarks and their texts, as functions (this project's profile of RFC 3339).
use Rattle.std.specs.Prelude.{ℕ, zero, suc, ◌+◌, ◌-◌, ◌*◌, ◌/◌, ◌%◌, ◌==◌, ◌&&◌, nat_lt}
use Rattle.std.specs.Prelude.{List, []}
use Rattle.std.specs.Prelude.{◌∷◌, length, take, slice_index, if◌then◌else◌, Option, Some, None, ℤ}
use Rattle.std.specs.Prelude.{pos, negsuc, ◌<ℤ◌, ◌≤ℤ◌}
use Rattle.std.specs.Char.{is_ascii_digit}
use Rattle.std.specs.Option.{unwrap_or}
use Rattle.jiff_core.specs.Calendar.{days_in_month, days_in_year}
use Rattle.jiff_fmt.specs.Reader.{fraction_value}
use Rattle.jiff_fmt.specs.Text.{fraction}
use Rattle.esc_envelope.specs.declared.parts.Day.{Day}
use Rattle.esc_envelope.specs.declared.parts.Clock.{Clock}
use Rattle.esc_envelope.specs.Moment.{is_day, is_clock, is_fraction, moment_value, moment_text}
use Rattle.esc_envelope.specs.Sequences.{◌>>=◌}

-- the moments of the years 1970 to 2261, in nanoseconds since 1970-01-01T00:00:00Z
abbrev pub IsInYears : ℤ → Type 0
IsInYears w = (pos 0 ≤ℤ w) × (w <ℤ pos 9_214_646_400_000_000_000)

-- the number of the two digits that a text begins with, and what follows them
abbrev pub two_at : List ℕ → Option (ℕ × List ℕ)
two_at [] = None
two_at (a ∷ []) = None
two_at (a ∷ b ∷ rest) = if is_ascii_digit a
    && is_ascii_digit b then Some ((a - 48) * 10 + (b - 48), rest) else None

-- the text after this byte, if the text begins with it
abbrev pub byte_at : ℕ → List ℕ → Option (List ℕ)
byte_at byte [] = None
byte_at byte (b ∷ rest) = if b == byte then Some rest else None

-- the text before a `Z` at the end
abbrev pub before_z : List ℕ → Option (List ℕ)
before_z text = if slice_index text (length text - 1) == 90 then Some
    (take (length text - 1) text) else None

-- the day `YYYY-MM-DD` that a text begins with, and the text after it
unfoldable pub day_at : List ℕ → Option (Day × List ℕ)
day_at text = do
  century ← two_at text
  year ← two_at century.1
  first ← byte_at 45 year.1
  month ← two_at first
  second ← byte_at 45 month.1
  day ← two_at second
  Some (record { year = century.0 * 100 + year.0; month = month.0; day = day.0 }, day.1)

-- the time of day `hh:mm:ss` that a text begins with, and the text after it
unfoldable pub clock_at : List ℕ → Option (Clock × List ℕ)
clock_at text = do
  hour ← two_at text
  first ← byte_at 58 hour.1
  minute ← two_at first
  second ← byte_at 58 minute.1
  seconds ← two_at second
  Some (record { hour = hour.0; minute = minute.0; second = seconds.0 }, seconds.1)

-- the nanoseconds of a fraction: of nothing, or of a dot and one to nine digits
abbrev pub billionths_of : List ℕ → Option ℕ
billionths_of [] = Some 0
billionths_of (b ∷ digits) = if (b == 46)
    && is_fraction digits then Some (fraction_value 9 digits) else None

-- the value of a moment, if its day is in the calendar and its time on the clock
abbrev pub value_if : Day → Clock → ℕ → Option ℤ
value_if day clock nanosecond = if is_day day
    && is_clock clock then Some (moment_value day clock nanosecond) else None

-- the moment that a text writes, in nanoseconds since 1970-01-01T00:00:00Z, if it writes one
unfoldable pub watermark_of : List ℕ → Option ℤ
watermark_of text = do
  moment ← before_z text
  day ← day_at moment
  after ← byte_at 84 day.1
  clock ← clock_at after
  nanosecond ← billionths_of clock.1
  value_if day.0 clock.0 nanosecond

-- of `count` years from `first` on: the year that has their day n, and the index of that day in its
-- year; days count from 0
unfoldable pub year_at : ℕ → ℕ → ℕ → ℕ × ℕ
year_at zero first n = (first, n)
year_at (suc count) first n =
    if nat_lt n (days_in_year (pos first)) then (first, n) else year_at count (suc first)
    (n - days_in_year (pos first))

-- of `count` months of a year from `first` on: the month that has their day n, and the index of
-- that day in its month; days count from 0
unfoldable pub month_at : ℕ → ℤ → ℕ → ℕ → ℕ × ℕ
month_at zero year first n = (first, n)
month_at (suc count) year first n =
    if nat_lt n (days_in_month year first) then (first, n) else month_at count year (suc first)
    (n - days_in_month year first)

-- the calendar's day n, counted from 0 at 1970-01-01
unfoldable pub day_of : ℕ → Day
day_of n =
    let year = year_at 292 1970 n in
    let month = month_at 12 (pos year.0) 1 year.1 in
    record { year = year.0; month = month.0; day = month.1 + 1 }

-- the time of day n nanoseconds after midnight
abbrev pub clock_of : ℕ → Clock
clock_of n = record {
  hour = n / 3_600_000_000_000;
  minute = n / 60_000_000_000 % 60;
  second = n / 1_000_000_000 % 60;
}

-- the text of a moment of the years 1970 to 2261; its fraction ends with the last digit that is not
-- zero
unfoldable pub watermark_text_of : ℤ → Option (List ℕ)
watermark_text_of (negsuc n) = None
watermark_text_of (pos n) =
    if nat_lt n 9_214_646_400_000_000_000
    then Some (moment_text (day_of (n / 86_400_000_000_000)) (clock_of (n % 86_400_000_000_000))
    (fraction None (n % 1_000_000_000)))
    else None

-- a watermark as it is printed; nothing outside the years 1970 to 2261
abbrev pub printed : ℤ → List ℕ
printed w = unwrap_or (watermark_text_of w) []
