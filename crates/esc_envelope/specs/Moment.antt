-- Moments: a day, a time of day and a fraction of a second, their text and their value (this
-- project's profile of RFC 3339: UTC alone, without leap seconds).
use Rattle.std.specs.Prelude.{ℕ, ◌+◌, ◌*◌, ◌/◌, ◌%◌, ◌<◌, ◌≡◌, List, [], ◌∷◌}
use Rattle.std.specs.Prelude.{◌++◌, length, Bool}
use Rattle.std.specs.Prelude.{true, ◌&&◌, nat_lt, nat_le, ℤ, pos, ◌+ℤ◌, ◌*ℤ◌}
use Rattle.std.specs.Char.{is_ascii_digit}
use Rattle.std.specs.List.{list_all}
use Rattle.jiff_core.specs.Calendar.{days_in_month, days_from_civil}
use Rattle.jiff_fmt.specs.Reader.{fraction_value}
use Rattle.esc_envelope.specs.declared.parts.Day.{Day}
use Rattle.esc_envelope.specs.declared.parts.Clock.{Clock}

-- a number below 100 in two digits
abbrev pub two_digits : ℕ → List ℕ
two_digits n = (48 + n / 10) ∷ (48 + n % 10) ∷ []

-- `YYYY-MM-DD`
abbrev pub day_text : Day → List ℕ
day_text d = two_digits (d.year / 100)
    ++ (two_digits (d.year % 100) ++ (45 ∷ (two_digits d.month ++ (45 ∷ two_digits d.day))))

-- `hh:mm:ss`
abbrev pub clock_text : Clock → List ℕ
clock_text c = two_digits c.hour ++ (58 ∷ (two_digits c.minute ++ (58 ∷ two_digits c.second)))

-- a dot and the digits of a fraction, if it has any
abbrev pub fraction_text : List ℕ → List ℕ
fraction_text [] = []
fraction_text (digit ∷ digits) = 46 ∷ digit ∷ digits

-- `YYYY-MM-DDThh:mm:ss`, the fraction, and `Z`
abbrev pub moment_text : Day → Clock → List ℕ → List ℕ
moment_text d c fraction = (day_text d ++ (84 ∷ (clock_text c ++ fraction_text fraction)))
    ++ (90 ∷ [])

-- a day of the calendar, of the years 1970 to 2261
abbrev pub is_day : Day → Bool
is_day d = nat_le 1970 d.year && nat_le d.year 2261 && nat_le 1 d.month && nat_le d.month 12
    && nat_le 1 d.day && nat_le d.day (days_in_month (pos d.year) d.month)

-- a time of day: hours up to 23, minutes and seconds up to 59
abbrev pub is_clock : Clock → Bool
is_clock c = nat_lt c.hour 24 && nat_lt c.minute 60 && nat_lt c.second 60

-- one to nine digits
abbrev pub is_fraction : List ℕ → Bool
is_fraction digits = nat_lt 0 (length digits) && nat_le (length digits) 9
    && list_all is_ascii_digit digits

-- the moment as nanoseconds since 1970-01-01T00:00:00Z
abbrev pub moment_value : Day → Clock → ℕ → ℤ
moment_value d c nanosecond =
    days_from_civil (pos d.year) d.month d.day *ℤ pos 86_400_000_000_000
    +ℤ pos ((c.hour * 3600 + c.minute * 60 + c.second) * 1_000_000_000 + nanosecond)

-- the text writes the moment w
pub record IsWatermark (text : List ℕ) (w : ℤ) : Type 0 where
  pub day : Day
  pub clock : Clock
  pub fraction : List ℕ
  pub real : is_day day ≡ true
  pub timed : is_clock clock ≡ true
  pub digits : 0 < length fraction → is_fraction fraction ≡ true
  pub written : text ≡ moment_text day clock fraction
  pub value : w ≡ moment_value day clock (fraction_value 9 fraction)
