-- The rows that an agent's files have for a declared table (this project's profile of RFC 9022's
-- CSV model).
use Rattle.std.specs.Prelude.{◌≡◌, ℕ, List, Bool, length, true, [], ◌∷◌, take, drop, ◌==◌, ◌&&◌}
use Rattle.std.specs.Prelude.{nat_lt, if◌then◌else◌}
use Rattle.std.specs.List.{flat_map, list_all, zip}
use Rattle.esc_csv.specs.Lines.{Line, text_of}
use Rattle.esc_csv.specs.Records.{records_of}
use Rattle.esc_envelope.specs.EnvelopeValue.{TableValue}
use Rattle.esc_pack.specs.KnownFields.{names_field}

-- the files of a table, and whether each begins with a heading row
pub record GivenTable : Type 0 where
  pub has_heading : Bool
  pub files : List (List ℕ)

-- the rows of a file: its records, but for the heading
abbrev pub file_rows : Bool → List ℕ → List Line
file_rows has_heading text = if has_heading then drop 1 (records_of text) else records_of text

-- the rows of a table's files, one file after the other
abbrev pub given_rows : GivenTable → List Line
given_rows t = flat_map (file_rows t.has_heading) t.files

-- whether a row names the declared fields of a table in their order, each by its own name or by that
-- of the CSV model
abbrev pub is_table_heading : TableValue → Line → Bool
is_table_heading t row =
    (length row == length t.fields) && list_all (names_field t.name) (zip row t.fields)

-- a file begins with a heading of a declared table
abbrev pub IsHeaded : TableValue → List ℕ → Type 0
IsHeaded t text = (row : Line)
    × (take 1 (records_of text) ≡ row ∷ []) × (is_table_heading t row ≡ true)

-- whether a row has so many fields, and some
abbrev pub has_width : ℕ → Line → Bool
has_width n line = (length line == n) && nat_lt 0 n

-- the text of these rows is read as just these rows
abbrev pub IsReadBack : GivenTable → Type 0
IsReadBack t = records_of (text_of (given_rows t)) ≡ given_rows t
