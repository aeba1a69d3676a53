-- What one pass over rows notes.
use Rattle.std.specs.Prelude.{◌≡◌, ℕ, Bool, ◌+◌, true, false, ◌&&◌, nat_le, if◌then◌else◌, Result}
use Rattle.std.specs.Prelude.{List, ◌++◌, map}
use Rattle.std.specs.List.{list_all, fold}
use Rattle.esc_bundle.specs.declared.refusal.Refusal.{Refusal}
use Rattle.esc_bundle.specs.declared.refusal.Refusal.TheVariants.{BrokenRow, WrongKey, TooManyRows}
use Rattle.esc_bundle.specs.declared.fault.Fault.{Fault}
use Rattle.esc_bundle.specs.declared.fault.Fault.TheVariants.{Refused}
use Rattle.esc_bundle.specs.Tests.{◌>>=◌, check}
use Rattle.esc_tables.specs.declared.survey.Survey.{Survey}
use Rattle.esc_tables.specs.TableRow.{TableRow, is_whole, has_key}
use Rattle.esc_tables.specs.Reading.{most_rows}

-- what was seen of the rows, with one more
abbrev pub surveyed : Survey → TableRow → Survey
surveyed s r = record {
  has_keys = s.has_keys && has_key r;
  rows = if nat_le s.rows most_rows then s.rows + 1 else s.rows;
}

-- what was seen before the first row
abbrev pub unseen : Survey
unseen = record { has_keys = true; rows = 0 }

-- whether each of the rows has a valid key, and they are not too many
abbrev pub is_right : Survey → Bool
is_right s = s.has_keys && nat_le s.rows most_rows

-- the least fault of the rows, where all of them are whole
abbrev pub verdict : Survey → Result (Unit {0}) Refusal
verdict s = do
  named ← check s.has_keys WrongKey
  check (nat_le s.rows most_rows) TooManyRows

-- these rows were read. They are whole, what was seen of them is noted, and as long as that is
-- right, what is read of each is appended to a list; what was seen and the list are given as they
-- stood before and after
pub record AreSurveyed {X : Type 0} (of_row : TableRow → X) (rows : List TableRow)
    (before after : Survey × List X) : Type 0 where
  pub seen : after.0 ≡ fold surveyed before.0 rows
  pub whole : list_all is_whole rows ≡ true
  pub kept : is_right after.0 ≡ true → after.1 ≡ before.1 ++ map of_row rows

-- a fault of these rows. If it is a refusal, it is U9, and one of them isn't whole
abbrev pub IsFaultOf : List TableRow → Fault → Type 0
IsFaultOf rows fault = (why : Refusal) → fault ≡ Refused why
    → (why ≡ BrokenRow) × (list_all is_whole rows ≡ false)
