-- What the rows of a bundle are tested for, one test after the other, where it is no deposit (this
-- project's profile).
use Rattle.std.specs.Prelude.{◌≡◌, ◌+◌, ℕ, Bool, true, false, ◌&&◌, nat_le, List, [], ◌∷◌, length}
use Rattle.esc_csv.specs.Lines.{Line}
use Rattle.esc_envelope.specs.EnvelopeValue.{TableValue}
use Rattle.esc_tables.specs.Reading.{most_rows}
use Rattle.esc_tables.specs.TableRow.{TableRow, in_table, is_whole, has_key}
use Rattle.esc_pack.specs.declared.file_spot.RowTest.{RowTest}
use Rattle.esc_pack.specs.declared.file_spot.RowTest.TheVariants.{Whole, Key, Count}
use Rattle.esc_pack.specs.declared.file_spot.Search.{Search}
use Rattle.esc_pack.specs.declared.file_spot.Search.TheVariants.{Found, Rows}

-- whether a row, the one with this number from 1 among all, passes a test: U9, U10 or U11
abbrev pub passes_test : RowTest → TableRow → ℕ → Bool
passes_test Whole row number = is_whole row
passes_test Key row number = has_key row
passes_test Count row number = nat_le number most_rows

-- whether all these rows of a table do, with so many rows before them
abbrev pub pass_test : RowTest → TableValue → ℕ → List Line → Bool
pass_test test t before [] = true
pass_test test t before (line ∷ lines) =
    passes_test test (in_table t line) (before + 1) && pass_test test t (before + 1) lines

-- what comes of a search in the rows of a file, with so many rows before them: one that fails the
-- test, or how many rows there are
abbrev pub IsSearched : RowTest → TableValue → ℕ → List Line → Search → Type 0
IsSearched test t before lines (Found text) = pass_test test t before lines ≡ false
IsSearched test t before lines (Rows count) =
    (pass_test test t before lines ≡ true) × (count ≡ before + length lines)
