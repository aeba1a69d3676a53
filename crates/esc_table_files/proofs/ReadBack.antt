-- The text of a table reads as its lines.
use Rattle.std.proofs.Common.{◌≡◌, ℕ, List, [], ◌∷◌, ◌++◌, map, refl, ap, codes}
use Rattle.std.specs.List.{flat_map}
use Rattle.csv.specs.Reading.{strip_bom}
use Rattle.csv.specs.Writing.{read_back}
use Rattle.esc_tables.specs.KeyName.{KeyName}
use Rattle.esc_tables.specs.ObjectValue.{RowValue}
use Rattle.esc_apply.specs.ObjectStreams.{Entry}
use Rattle.esc_csv.specs.Lines.{Line}
use Rattle.esc_csv.specs.Records.{IsUnmarked}
use Rattle.esc_table_files.specs.Layouts.{LayoutValue, row_line, entry_rows, entry_lines, table_lines, table_csv}

-- each line has the key, and so is read as it is
rows_back : (columns : List (List ℕ)) (k : KeyName) (rows : List RowValue) (more : List Line)
    → map read_back more ≡ more
    → map read_back (map (row_line columns k) rows ++ more) ≡ map (row_line columns k) rows ++ more
rows_back columns k [] more back = back
rows_back columns k (r ∷ rows) more back =
    ap (λ (ls : List Line). row_line columns k r ∷ ls) (rows_back columns k rows more back)

objects_back : (l : LayoutValue) (es : List Entry)
    → map read_back (flat_map (entry_lines l) es) ≡ flat_map (entry_lines l) es
objects_back l [] = refl
objects_back l (e ∷ es) =
    rows_back l.columns e.0 (entry_rows l.table e) (flat_map (entry_lines l) es) (objects_back l es)

-- the lines of a table are read back as they are
pub lines_back : (l : LayoutValue) (es : List Entry) → map read_back (table_lines l es) ≡ table_lines l es
lines_back l es = ap (λ (ls : List Line). (codes "key" ∷ l.columns) ∷ ls) (objects_back l es)

-- the text begins with the name of the first column
pub unmarked : (l : LayoutValue) (es : List Entry) → IsUnmarked (table_csv l es)
unfolding strip_bom
unmarked l es = refl
