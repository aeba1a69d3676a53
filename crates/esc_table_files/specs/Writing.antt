-- Outputs that are written side by side.
use Rattle.std.specs.Prelude.{◌≡◌, ℕ, List, Option}
use Rattle.std.specs.Io.KnownBytes.{Appends}
use Rattle.esc_csv.specs.Lines.{line_text}
use Rattle.esc_table_files.specs.Layouts.{LayoutValue, heading_line}

-- what is written to the output of a table grew by the table's text; the table is the same
abbrev pub HasGrown : {A : Type 0} → (A → LayoutValue) → (A → Option (List ℕ))
    → (LayoutValue → List ℕ) → A → A → Type 0
HasGrown table contents text a b =
    (table b ≡ table a) × Appends (contents a) (contents b) (text (table a))

-- the text of a table's heading
abbrev pub heading_csv : LayoutValue → List ℕ
heading_csv l = line_text (heading_line l)
