-- The parts of a moment, and what `jiff` takes for a date and a time.
use Rattle.std.proofs.Common.{◌≡◌, ℕ, ◌<◌, ◌≤◌, ◌&&◌, true, ℤ, pos, to_z, w8, w32, refl, ap}
use Rattle.std.proofs.Common.{arith, Some, None, inl, inr}
use Rattle.std.specs.Int.{w16}
use Rattle.std.proofs.lemmas.Int.{to_z_pos}
use Rattle.std.proofs.lemmas.Bool.{cases_Bool}
use Rattle.std.proofs.lemmas.Bool.Decides.{nat_tests}
use Rattle.jiff_core.specs.declared.civil.datetime.DateTime.{DateTime}
use Rattle.jiff_core.specs.Calendar.{IsDate, days_in_month}
use Rattle.jiff_core.specs.Date.{IsYmd}
use Rattle.jiff_core.specs.DateTime.{civil_nanos}
use Rattle.jiff_core.specs.Time.{IsTime, IsHms}
use Rattle.jiff_core.proofs.SignedLemmas.{signed_arith}
use Rattle.jiff_core.proofs.DateTimeLemmas.{civil_nanos-parts}
use Rattle.esc_envelope.specs.declared.parts.Day.{Day}
use Rattle.esc_envelope.specs.declared.parts.Clock.{Clock}
use Rattle.esc_envelope.specs.Moment.{is_day, is_clock, moment_value}
use Rattle.esc_envelope.specs.Watermark.{value_if}

-- parts that the readers give, with a year of these
pub record IsShort (d : Day) (c : Clock) (n : ℕ) : Type 0 where
  pub first : 1970 ≤ d.year
  pub last : d.year ≤ 2261
  pub month : d.month < 100
  pub day : d.day < 100
  pub hour : c.hour < 100
  pub minute : c.minute < 100
  pub second : c.second < 100
  pub nanosecond : n < 1_000_000_000

-- the library takes a day and a time
abbrev pub IsTold : Day → Clock → ℕ → Type 0
IsTold d c n = IsDate (to_z w16 d.year) (to_z w8 d.month) (to_z w8 d.day)
    × IsTime (to_z w8 c.hour) (to_z w8 c.minute) (to_z w8 c.second) (to_z w32 n)

abbrev IsPlain : Day → Clock → ℕ → Type 0
IsPlain d c n = IsDate (pos d.year) (pos d.month) (pos d.day)
    × IsTime (pos c.hour) (pos c.minute) (pos c.second) (pos n)

year_is : (d : Day) (c : Clock) (n : ℕ) → IsShort d c n → to_z w16 d.year ≡ pos d.year
year_is d c n s = to_z_pos w16 d.year (omega (arith, s.last))

byte_is : (n : ℕ) → n < 100 → to_z w8 n ≡ pos n
byte_is n h = to_z_pos w8 n (omega arith)

told_plain : (d : Day) (c : Clock) (n : ℕ) → IsShort d c n → IsTold d c n → IsPlain d c n
told_plain d c n s told =
    rw (
      year_is d c n s,
      byte_is d.month s.month,
      byte_is d.day s.day,
      byte_is c.hour s.hour,
      byte_is c.minute s.minute,
      byte_is c.second s.second,
      to_z_pos w32 n (omega (arith, s.nanosecond)),
    ) at told

plain_told : (d : Day) (c : Clock) (n : ℕ) → IsShort d c n → IsPlain d c n → IsTold d c n
plain_told d c n s plain =
    rw (
      year_is d c n s,
      byte_is d.month s.month,
      byte_is d.day s.day,
      byte_is c.hour s.hour,
      byte_is c.minute s.minute,
      byte_is c.second s.second,
      to_z_pos w32 n (omega (arith, s.nanosecond)),
    ) plain

plain_real : (d : Day) (c : Clock) (n : ℕ) → IsShort d c n → IsPlain d c n → (is_day d && is_clock c) ≡ true
plain_real d c n s (date, time) = grind (arith, nat_tests, s.first, s.last, date.1, date.2, time.0, time.1, time.2)

real_plain : (d : Day) (c : Clock) (n : ℕ) → IsShort d c n → (is_day d && is_clock c) ≡ true → IsPlain d c n
real_plain d c n s real =
    let month : (1 ≤ d.month) × (d.month ≤ 12) = (grind (arith, nat_tests), grind (arith, nat_tests)) in
    let day : (1 ≤ d.day) × (d.day ≤ days_in_month (pos d.year) d.month) =
    (grind (arith, nat_tests), grind (arith, nat_tests)) in
    let time : (c.hour < 24) × (c.minute < 60) × (c.second < 60) =
    (grind (arith, nat_tests), grind (arith, nat_tests), grind (arith, nat_tests)) in (
      (
        (omega (arith, signed_arith, s.last), omega (arith, signed_arith, s.last)),
        (omega (arith, signed_arith), omega (arith, signed_arith)),
        (omega (arith, signed_arith), omega (arith, signed_arith)),
      ),
      (
        (omega (arith, signed_arith), omega (arith, signed_arith)),
        (
          omega (arith, signed_arith),
          omega (arith, signed_arith),
        ),
        (omega (arith, signed_arith), omega (arith, signed_arith)),
        (omega (arith, signed_arith), omega (arith, signed_arith, s.nanosecond)),
      ),
    )

value_of_parts : (civil : DateTime) (d : Day) (c : Clock) (n : ℕ) → IsYmd (pos d.year) (pos d.month)
    (pos d.day) civil.date → IsHms (pos c.hour) (pos c.minute) (pos c.second) (pos n) civil.time
    → civil_nanos civil ≡ moment_value d c n
value_of_parts civil d c n ymd hms =
    let month : d.month ≡ civil.date.month = omega (arith, signed_arith, ymd.1) in
    let day : d.day ≡ civil.date.day = omega (arith, signed_arith, ymd.2) in
    rw (month, day, ← ymd.0) (omega (arith, signed_arith, civil_nanos-parts civil, hms))

-- a moment that `jiff` takes, and one that it refuses
pub taken : (civil : DateTime) (d : Day) (c : Clock) (n : ℕ) → IsShort d c n → IsTold d c n
    → IsYmd (to_z w16 d.year) (to_z w8 d.month) (to_z w8 d.day) civil.date
    → IsHms (to_z w8 c.hour) (to_z w8 c.minute) (to_z w8 c.second) (to_z w32 n) civil.time
    → Some (civil_nanos civil) ≡ value_if d c n
taken civil d c n s told ymd hms =
    let real = plain_real d c n s (told_plain d c n s told) in
    let date = rw (year_is d c n s, byte_is d.month s.month, byte_is d.day s.day) at ymd in
    let time = rw (
      byte_is c.hour s.hour,
      byte_is c.minute s.minute,
      byte_is c.second s.second,
      to_z_pos w32 n (omega (arith, s.nanosecond)),
    ) at hms in
    rw real (ap (λ (z : ℤ). Some z) (value_of_parts civil d c n date time))

-- what the library does not take is no moment
pub refused : (d : Day) (c : Clock) (n : ℕ) → IsShort d c n → (IsTold d c n → ⊥) → None ≡ value_if d c n
refused d c n s told =
    elim (cases_Bool (is_day d && is_clock c)) [
      | inl real ↦ absurd (told (plain_told d c n s (real_plain d c n s real)))
      | inr unreal ↦ rw unreal refl
    ]
