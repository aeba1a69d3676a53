-- What is read as a moment is its text, and the text of a moment is read.
use Rattle.std.proofs.Common.{◌≡◌, ℕ, ◌+◌, ◌-◌, ◌*◌, ◌/◌, ◌%◌, ◌<◌, ◌≤◌}
use Rattle.std.proofs.Common.{◌&&◌, true, List, [], ◌∷◌, ◌++◌, length, take, drop, Option, Some, refl}
use Rattle.std.proofs.Common.{sym, ap, subst, ◌∙◌, ◌↔◌, arith, ℤ, pos}
use Rattle.std.specs.Prelude.{slice_index, ◌==◌}
use Rattle.std.specs.Char.{is_ascii_digit}
use Rattle.std.proofs.lemmas.Bool.{eqb-true, and_parts}
use Rattle.std.proofs.lemmas.Option.{cond_some, same_Some}
use Rattle.std.proofs.lemmas.Bool.Decides.{nat_tests}
use Rattle.std.proofs.lemmas.List.{take-append-drop, drop_more, drop_all, take_at, get_or_at, length-append}
use Rattle.jiff_core.proofs.CalendarLemmas.{days_in_month_bounds}
use Rattle.jiff_fmt.specs.Reader.{fraction_value}
use Rattle.jiff_fmt.proofs.ReaderLemmas.{fraction_value-nil}
use Rattle.esc_envelope.specs.declared.parts.Day.{Day}
use Rattle.esc_envelope.specs.declared.parts.Clock.{Clock}
use Rattle.esc_envelope.specs.Moment.{two_digits, day_text, clock_text, fraction_text, is_day, is_clock}
use Rattle.esc_envelope.specs.Moment.{is_fraction, moment_value, IsWatermark}
use Rattle.esc_envelope.specs.SequenceLaws.{bound}
use Rattle.esc_envelope.specs.Watermark.{two_at, byte_at, before_z, day_at, clock_at, billionths_of, watermark_of}

-- a value that is there
abbrev pub some_of : {A : Type 0} → A → Option A
some_of x = Some x

-- ---- a text is read

abbrev the_day : ℕ → ℕ → ℕ → Day
the_day y m d = record { year = y; month = m; day = d }

two_again : (n : ℕ) (rest : List ℕ) → n < 100 → two_at (two_digits n ++ rest) ≡ Some (n, rest)
two_again n rest h =
    let test : (is_ascii_digit (48 + n / 10) && is_ascii_digit (48 + n % 10)) ≡ true = grind (arith, nat_tests) in
    let value : (48 + n / 10 - 48) * 10 + (48 + n % 10 - 48) ≡ n = omega arith in
    rw test (ap (λ (v : ℕ). some_of (v, rest)) value)

-- a day whose parts have their lengths
pub record IsShortDay (d : Day) : Type 0 where
  pub year : d.year < 10000
  pub month : d.month < 100
  pub day : d.day < 100

-- a day has parts of their lengths
pub short_day : (d : Day) → is_day d ≡ true → IsShortDay d
short_day d real =
    let month_length = days_in_month_bounds (pos d.year) d.month in
    record {
      year = grind (arith, nat_tests);
      month = grind (arith, nat_tests);
      day = grind (arith, nat_tests, month_length);
    }

-- a day's text is read as the day
pub day_again : (d : Day) (rest : List ℕ) → is_day d ≡ true → day_at (day_text d ++ rest) ≡ Some (d, rest)
unfolding day_at
day_again d rest real =
    let short = short_day d real in
    let whole : d.year / 100 * 100 + d.year % 100 ≡ d.year = omega arith in
    rw (
      two_again (d.year / 100) (two_digits (d.year % 100) ++ (45
          ∷ (two_digits d.month ++ (45 ∷ (two_digits d.day ++ rest))))) (omega (arith, short.year)),
      two_again (d.year % 100) (45 ∷ (two_digits d.month ++ (45 ∷ (two_digits d.day ++ rest)))) (omega arith),
      two_again d.month (45 ∷ (two_digits d.day ++ rest)) short.month,
      two_again d.day rest short.day,
    )
    (ap (λ (y : ℕ). some_of (the_day y d.month d.day, rest)) whole)

clock_again : (c : Clock) (rest : List ℕ)
    → is_clock c ≡ true → clock_at (clock_text c ++ rest) ≡ Some (c, rest)
unfolding clock_at
clock_again c rest timed =
    let hour : c.hour < 24 = grind (arith, nat_tests) in
    let minute : c.minute < 60 = grind (arith, nat_tests) in
    let second : c.second < 60 = grind (arith, nat_tests) in
    rw (
      two_again c.hour (58 ∷ (two_digits c.minute ++ (58 ∷ (two_digits c.second ++ rest)))) (omega arith),
      two_again c.minute (58 ∷ (two_digits c.second ++ rest)) (omega arith),
      two_again c.second rest (omega arith),
    ) refl

z_again : (moment : List ℕ) → before_z (moment ++ (90 ∷ [])) ≡ Some moment
z_again moment =
    let more : length (moment ++ (90 ∷ [])) - 1 ≡ length moment = omega (arith, length-append moment (90 ∷ [])) in
    let last : slice_index (moment ++ (90 ∷ [])) (length moment) ≡ 90 =
    get_or_at moment 90 [] 0 (length moment) refl in
    rw (more, last) (ap (λ (m : List ℕ). some_of m) (take_at moment (90 ∷ []) (length moment) refl))

billionths_again : (digits : List ℕ) → (0 < length digits → is_fraction digits ≡ true)
    → billionths_of (fraction_text digits) ≡ Some (fraction_value 9 digits)
billionths_again [] form = ap (λ (n : ℕ). some_of n) (sym (fraction_value-nil 9))
billionths_again (d ∷ ds) form = rw (form (omega arith)) refl

-- a watermark's text is read as it
pub watermark_again : (text : List ℕ) (w : ℤ) → IsWatermark text w → watermark_of text ≡ Some w
unfolding watermark_of
watermark_again text w m =
    let moment = day_text m.day ++ (84 ∷ (clock_text m.clock ++ fraction_text m.fraction)) in
    let real : (is_day m.day && is_clock m.clock) ≡ true = rw (m.real, m.timed) refl in
    rw (
      m.written,
      z_again moment,
      day_again m.day (84 ∷ (clock_text m.clock ++ fraction_text m.fraction)) m.real,
      clock_again m.clock (fraction_text m.fraction) m.timed,
      billionths_again m.fraction m.digits,
      real,
    ) (ap (λ (z : ℤ). some_of z) (sym m.value))

-- ---- what is read is a text

two_parts : (text : List ℕ) (x : ℕ × List ℕ)
    → two_at text ≡ Some x → (text ≡ two_digits x.0 ++ x.1) × (x.0 < 100)
two_parts [] x e = absurd cc
two_parts (a ∷ []) x e = absurd cc
two_parts (a ∷ b ∷ more) x e =
    let told = cond_some (is_ascii_digit a && is_ascii_digit b) ((a - 48) * 10 + (b - 48), more) x e in
    let digits = and_parts (is_ascii_digit a) (is_ascii_digit b) told.0 in
    let first : (48 ≤ a) × (a ≤ 57) = (grind (arith, nat_tests, digits.0), grind (arith, nat_tests, digits.0)) in
    let second : (48 ≤ b) × (b ≤ 57) = (grind (arith, nat_tests, digits.1), grind (arith, nat_tests, digits.1)) in
    let value : x.0 ≡ (a - 48) * 10 + (b - 48) = ap (λ (y : ℕ × List ℕ). y.0) (sym told.1) in
    let rest : more ≡ x.1 = ap (λ (y : ℕ × List ℕ). y.1) told.1 in
    let tens : a ≡ 48 + x.0 / 10 = omega (arith, value, first, second) in
    let ones : b ≡ 48 + x.0 % 10 = omega (arith, value, first, second) in
    let text : a ∷ b ∷ more ≡ two_digits x.0 ++ x.1 =
    ap (λ (c : ℕ). c ∷ b ∷ more) tens ∙ ap (λ (c : ℕ). (48 + x.0 / 10) ∷ c ∷ more) ones
    ∙ ap (λ (l : List ℕ). (48 + x.0 / 10) ∷ (48 + x.0 % 10) ∷ l) rest in
    (text, omega (arith, value, first, second))

two_takes : (text : List ℕ) (x : ℕ × List ℕ) → two_at text ≡ Some x → text ≡ two_digits x.0 ++ x.1
two_takes text x e = (two_parts text x e).0

byte_takes : (byte : ℕ) (text rest : List ℕ) → byte_at byte text ≡ Some rest → text ≡ byte ∷ rest
byte_takes byte [] rest e = absurd cc
byte_takes byte (b ∷ more) rest e =
    let told = cond_some (b == byte) more rest e in
    let same = eqb-true b byte told.0 in
    ap (λ (c : ℕ). c ∷ more) same ∙ ap (λ (l : List ℕ). byte ∷ l) told.1

day_takes : (text : List ℕ) (x : Day × List ℕ) → day_at text ≡ Some x → text ≡ day_text x.0 ++ x.1
unfolding day_at
day_takes text x e =
    let century = bound (two_at text) _ x e in
    let year = bound (two_at century.it.1) _ x century.goes in
    let first = bound (byte_at 45 year.it.1) _ x year.goes in
    let month = bound (two_at first.it) _ x first.goes in
    let second = bound (byte_at 45 month.it.1) _ x month.goes in
    let day = bound (two_at second.it) _ x second.goes in
    let small = (two_parts century.it.1 year.it year.was).1 in
    let hundreds : (century.it.0 * 100 + year.it.0) / 100 ≡ century.it.0 = omega (arith, small) in
    let left : (century.it.0 * 100 + year.it.0) % 100 ≡ year.it.0 = omega (arith, small) in
    let made : Day × List ℕ = (
      record {
        year = century.it.0 * 100 + year.it.0;
        month = month.it.0;
        day = day.it.0;
      },
      day.it.1,
    ) in
    let text_is : text ≡ two_digits century.it.0 ++ (two_digits year.it.0
    ++ (45 ∷ (two_digits month.it.0 ++ (45 ∷ (two_digits day.it.0 ++ day.it.1))))) =
    two_takes text century.it century.was
    ∙ ap (λ (l : List ℕ). two_digits century.it.0 ++ l) (two_takes century.it.1 year.it year.was
    ∙ ap (λ (l : List ℕ). two_digits year.it.0 ++ l) (byte_takes 45 year.it.1 first.it first.was
    ∙ ap (λ (l : List ℕ). 45 ∷ l) (two_takes first.it month.it month.was
    ∙ ap (λ (l : List ℕ). two_digits month.it.0 ++ l) (byte_takes 45 month.it.1 second.it second.was
    ∙ ap (λ (l : List ℕ). 45 ∷ l) (two_takes second.it day.it day.was))))) in
    let whole : text ≡ day_text made.0 ++ made.1 = text_is
    ∙ ap (λ (n : ℕ). two_digits n ++ (two_digits year.it.0
    ++ (45 ∷ (two_digits month.it.0 ++ (45 ∷ (two_digits day.it.0 ++ day.it.1)))))) (sym hundreds)
    ∙ ap (λ (n : ℕ). two_digits ((century.it.0 * 100 + year.it.0) / 100) ++ (two_digits n
    ++ (45 ∷ (two_digits month.it.0 ++ (45 ∷ (two_digits day.it.0 ++ day.it.1)))))) (sym left) in
    subst (λ (y : Day × List ℕ). text ≡ day_text y.0 ++ y.1) (same_Some made x day.goes) whole

clock_takes : (text : List ℕ) (x : Clock × List ℕ) → clock_at text ≡ Some x → text ≡ clock_text x.0 ++ x.1
unfolding clock_at
clock_takes text x e =
    let hour = bound (two_at text) _ x e in
    let first = bound (byte_at 58 hour.it.1) _ x hour.goes in
    let minute = bound (two_at first.it) _ x first.goes in
    let second = bound (byte_at 58 minute.it.1) _ x minute.goes in
    let seconds = bound (two_at second.it) _ x second.goes in
    let made : Clock × List ℕ =
    (record { hour = hour.it.0; minute = minute.it.0; second = seconds.it.0 }, seconds.it.1) in
    let text_is : text ≡ clock_text made.0 ++ made.1 =
    two_takes text hour.it hour.was
    ∙ ap (λ (l : List ℕ). two_digits hour.it.0 ++ l) (byte_takes 58 hour.it.1 first.it first.was
    ∙ ap (λ (l : List ℕ). 58 ∷ l) (two_takes first.it minute.it minute.was
    ∙ ap (λ (l : List ℕ). two_digits minute.it.0 ++ l) (byte_takes 58 minute.it.1 second.it second.was
    ∙ ap (λ (l : List ℕ). 58 ∷ l) (two_takes second.it seconds.it seconds.was)))) in
    subst (λ (y : Clock × List ℕ). text ≡ clock_text y.0 ++ y.1) (same_Some made x seconds.goes) text_is

-- where the last byte is a `Z` there is one
z_inside : (text : List ℕ) → slice_index text (length text - 1) ≡ 90 → length text - 1 < length text
z_inside [] last = absurd cc
z_inside (b ∷ more) last = omega arith

z_takes : (text moment : List ℕ) → before_z text ≡ Some moment → text ≡ moment ++ (90 ∷ [])
z_takes text moment e =
    let n = length text - 1 in
    let told = cond_some (slice_index text n == 90) (take n text) moment e in
    let last = eqb-true (slice_index text n) 90 told.0 in
    let inside : n < length text = z_inside text last in
    let rest : drop n text ≡ 90 ∷ [] = drop_more text n 0 inside ∙ ap (λ (b : ℕ). b ∷ drop (n + 1) text)
    last ∙ ap (λ (l : List ℕ). 90 ∷ l) (drop_all (n + 1) text (omega arith)) in
    sym (take-append-drop n text)
    ∙ ap (λ (l : List ℕ). take n text ++ l) rest ∙ ap (λ (l : List ℕ). l ++ (90 ∷ [])) told.1

-- a fraction's digits, by its text
pub record IsFractionOf (text : List ℕ) (n : ℕ) : Type 0 where
  pub digits : List ℕ
  pub form : 0 < length digits → is_fraction digits ≡ true
  pub written : text ≡ fraction_text digits
  pub value : n ≡ fraction_value 9 digits

dotted : (b : ℕ) (digits : List ℕ)
    → b ≡ 46 → is_fraction digits ≡ true → b ∷ digits ≡ fraction_text digits
dotted b [] same form = absurd cc
dotted b (d ∷ ds) same form = ap (λ (c : ℕ). c ∷ d ∷ ds) same

billionths_takes : (text : List ℕ) (n : ℕ) → billionths_of text ≡ Some n → IsFractionOf text n
billionths_takes [] n e = record {
  digits = [];
  form = λ some. absurd (omega arith);
  written = refl;
  value = sym (same_Some 0 n e) ∙ sym (fraction_value-nil 9);
}
billionths_takes (b ∷ digits) n e =
    let told = cond_some ((b == 46) && is_fraction digits) (fraction_value 9 digits) n e in
    let parts = and_parts (b == 46) (is_fraction digits) told.0 in
    record {
      digits = digits;
      form = λ some. parts.1;
      written = dotted b digits (eqb-true b 46 parts.0) parts.1;
      value = sym told.1;
    }

watermark_takes : (text : List ℕ) (w : ℤ) → watermark_of text ≡ Some w → IsWatermark text w
unfolding watermark_of
watermark_takes text w e =
    let moment = bound (before_z text) _ w e in
    let day = bound (day_at moment.it) _ w moment.goes in
    let after = bound (byte_at 84 day.it.1) _ w day.goes in
    let clock = bound (clock_at after.it) _ w after.goes in
    let fraction = bound (billionths_of clock.it.1) _ w clock.goes in
    let told = cond_some (is_day day.it.0 && is_clock clock.it.0)
    (moment_value day.it.0 clock.it.0 fraction.it) w fraction.goes in
    let real = and_parts (is_day day.it.0) (is_clock clock.it.0) told.0 in
    let parts = billionths_takes clock.it.1 fraction.it fraction.was in
    let inner : moment.it ≡ day_text day.it.0 ++ (84 ∷ (clock_text clock.it.0 ++ fraction_text parts.digits)) =
    day_takes moment.it day.it day.was
    ∙ ap (λ (l : List ℕ). day_text day.it.0 ++ l) (byte_takes 84 day.it.1 after.it after.was
    ∙ ap (λ (l : List ℕ). 84 ∷ l) (clock_takes after.it clock.it clock.was
    ∙ ap (λ (l : List ℕ). clock_text clock.it.0 ++ l) parts.written)) in
    record {
      day = day.it.0;
      clock = clock.it.0;
      fraction = parts.digits;
      real = real.0;
      timed = real.1;
      digits = parts.form;
      written = z_takes text moment.it moment.was ∙ ap (λ (l : List ℕ). l ++ (90 ∷ [])) inner;
      value = sym told.1 ∙ ap (moment_value day.it.0 clock.it.0) parts.value;
    }

-- a text is read as a moment exactly where it is its watermark
pub watermark_exact : (text : List ℕ) (w : ℤ) → (watermark_of text ≡ Some w) ↔ IsWatermark text w
watermark_exact text w = (watermark_takes text w, watermark_again text w)
