-- The export of a kind (this project's profile of RFC 9022's CSV model).
use Rattle.std.specs.Prelude.{ℕ, Bool, List, [], ◌∷◌, ◌++◌, map, filter, count_by, codes}
use Rattle.std.specs.List.{flat_map}
use Rattle.std.specs.Fmt.{decimal}
use Rattle.std.specs.Str.{bytes_eq}
use Rattle.esc_envelope.specs.declared.kind.Kind.{Kind}
use Rattle.esc_envelope.specs.Kinds.{kind_name, is_kind}
use Rattle.esc_tables.specs.KeyName.{KeyName}
use Rattle.esc_tables.specs.ObjectValue.{RowValue, ObjectValue}
use Rattle.esc_csv.specs.Lines.{Line, text_of}

-- the first line: the names of the columns
abbrev pub export_heading : Line
export_heading = codes "kind" ∷ codes "key" ∷ codes "table" ∷ codes "row" ∷ codes "field"
    ∷ codes "value" ∷ []

-- the line of a cell in row n of a table
abbrev pub cell_line : KeyName → ℕ → List ℕ → (List ℕ × List ℕ) → Line
cell_line k n table c = kind_name k.kind ∷ k.text ∷ table ∷ decimal n ∷ c.0 ∷ c.1 ∷ []

-- a line for each cell of a row with number n, in the declared order
abbrev pub row_lines : KeyName → ℕ → RowValue → List Line
row_lines k n r = map (cell_line k n r.table) r.cells

-- whether a row is one of a table
abbrev pub is_of_table : List ℕ → RowValue → Bool
is_of_table table r = bytes_eq r.table table

-- the number of a row that comes after these rows, among the rows of its table, from 1
abbrev pub number_behind : List RowValue → RowValue → ℕ
number_behind earlier r = count_by (is_of_table r.table) (earlier ++ r ∷ [])

-- the lines of child rows that come after these rows, each with its number among the rows of its
-- table
unfoldable pub child_lines : KeyName → List RowValue → List RowValue → List Line
child_lines k earlier [] = []
child_lines k earlier (r ∷ rest) = row_lines k (number_behind earlier r) r
    ++ child_lines k (earlier ++ r ∷ []) rest

-- the lines of an object: its parent row has number 0
abbrev pub object_lines : KeyName → ObjectValue → List Line
object_lines k o = row_lines k 0 o.parent ++ child_lines k [] o.children

-- whether an object is of a kind
abbrev pub is_of : Kind → KeyName × ObjectValue → Bool
is_of kind e = is_kind e.0.kind kind

-- the lines of all objects of a kind, in the order of the entries
abbrev pub export_lines : Kind → List (KeyName × ObjectValue) → List Line
export_lines kind es = flat_map (λ e. object_lines e.0 e.1) (filter (is_of kind) es)

-- the export of a kind: the heading, and the lines of its objects
abbrev pub export_text : Kind → List (KeyName × ObjectValue) → List ℕ
export_text kind es = text_of (export_heading ∷ export_lines kind es)
