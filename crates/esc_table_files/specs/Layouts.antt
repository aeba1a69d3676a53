-- The tables of a registry as CSV files: which there are, their columns and their texts (this
-- project's profile of RFC 9022's CSV model).
use Rattle.std.specs.Prelude.{◌≡◌, ℕ, nat_lt, Bool, not, ◌&&◌, if◌then◌else◌, Option, Some, None}
use Rattle.std.specs.Prelude.{List, [], ◌∷◌, map, filter, take, length, codes}
use Rattle.std.specs.Option.{unwrap_or}
use Rattle.std.specs.List.{flat_map}
use Rattle.std.specs.Str.{bytes_eq, str_eq_ignore_ascii_case}
use Rattle.esc_envelope.specs.declared.kind.Kind.{Kind}
use Rattle.esc_envelope.specs.Kinds.{kind_name, is_kind}
use Rattle.esc_tables.specs.KeyName.{KeyName}
use Rattle.esc_tables.specs.ObjectValue.{RowValue, ObjectValue}
use Rattle.esc_apply.specs.ObjectStreams.{Entry}
use Rattle.esc_csv.specs.Lines.{Line, text_of}
use Rattle.esc_csv.specs.Records.{records_of}
use Rattle.esc_check.specs.Export.{is_of_table}
use Rattle.esc_check.specs.Fields.{cell}
use Rattle.esc_table_files.specs.Apart.{are_apart}

-- the name of a table: the kind of its objects, and the name of their child rows that it has; none
-- where it has the parent rows
pub record TableNameValue : Type 0 where
  pub kind : Kind
  pub child : Option (List ℕ)

-- a table, and the names of its columns after that of the key
pub record LayoutValue : Type 0 where
  pub table : TableNameValue
  pub columns : List (List ℕ)

-- each of these names once, in the order in which they first come
unfoldable pub each_once : List (List ℕ) → List (List ℕ)
each_once [] = []
each_once (n ∷ ns) = n ∷ filter (λ m. not (bytes_eq m n)) (each_once ns)

-- ---- which tables there are

abbrev pub parent_table : Kind → TableNameValue
parent_table kind = record { kind = kind; child = None }

abbrev pub child_table : Kind → List ℕ → TableNameValue
child_table kind name = record { kind = kind; child = Some name }

-- the child rows of an object, if it is of this kind
abbrev pub children_in : Kind → Entry → List RowValue
children_in kind e = if is_kind e.0.kind kind then e.1.children else []

-- the names of an object's child rows, if it is of this kind
abbrev pub names_in : Kind → Entry → List (List ℕ)
names_in kind e = map (λ r. r.table) (children_in kind e)

-- the names that child rows of a kind's objects have
abbrev pub child_names : Kind → List Entry → List (List ℕ)
child_names kind es = each_once (flat_map (names_in kind) es)

-- the tables of a kind: that of its parent rows, which is always there, and one for each name that
-- child rows have
abbrev pub table_names : Kind → List Entry → List TableNameValue
table_names kind es = parent_table kind ∷ map (child_table kind) (child_names kind es)

-- what a table is called: as its child rows, or as its kind
abbrev pub called : TableNameValue → List ℕ
called t = unwrap_or t.child (kind_name t.kind)

-- ---- which columns a table has

-- the rows of an object that a table of this name has
abbrev pub rows_named : Option (List ℕ) → ObjectValue → List RowValue
rows_named None o = o.parent ∷ []
rows_named (Some name) o = filter (is_of_table name) o.children

-- the rows of an object that a table has
abbrev pub entry_rows : TableNameValue → Entry → List RowValue
entry_rows t e = if is_kind e.0.kind t.kind then rows_named t.child e.1 else []

-- the fields of a row, in the declared order
abbrev pub row_fields : RowValue → List (List ℕ)
row_fields r = map (λ c. c.0) r.cells

-- the fields of an object's rows in a table
abbrev pub entry_fields : TableNameValue → Entry → List (List ℕ)
entry_fields t e = flat_map row_fields (entry_rows t e)

-- the columns of a table after that of the key: each field that a row of it has
abbrev pub columns_of : List Entry → TableNameValue → List (List ℕ)
columns_of es t = each_once (flat_map (entry_fields t) es)

-- a table with its columns
abbrev pub layout_of : List Entry → TableNameValue → LayoutValue
layout_of es t = record { table = t; columns = columns_of es t }

-- the heading of a table: the names of its columns
abbrev pub heading_line : LayoutValue → Line
heading_line l = codes "key" ∷ l.columns

-- the tables of a kind with their columns
abbrev pub kind_layouts : Kind → List Entry → List LayoutValue
kind_layouts kind es = map (layout_of es) (table_names kind es)

-- ---- which tables a database can have

-- whether a name is one of SQLite's own tables
abbrev pub is_own_name : List ℕ → Bool
is_own_name name = str_eq_ignore_ascii_case (take 7 name) (codes "sqlite_")

-- whether a table can be one of an SQLite database: its name is not one of SQLite's own, and it has
-- at most 2,000 columns, no two of which have one name but for case
abbrev pub is_for_database : LayoutValue → Bool
is_for_database l = not (is_own_name (called l.table))
    && (not (nat_lt 2000 (length (heading_line l))) && are_apart (heading_line l))

-- ---- the text of a table

-- the line of a row: its object's key, and for each column the text of that field, which is empty
-- where the row has none
abbrev pub row_line : List (List ℕ) → KeyName → RowValue → Line
row_line columns k r = k.text ∷ map (λ f. cell f r) columns

-- the lines of an object's rows in a table
abbrev pub entry_lines : LayoutValue → Entry → List Line
entry_lines l e = map (row_line l.columns e.0) (entry_rows l.table e)

-- the lines of a table: its heading, and its rows by their objects' keys
abbrev pub table_lines : LayoutValue → List Entry → List Line
table_lines l es = heading_line l ∷ flat_map (entry_lines l) es

-- these lines as a text
abbrev pub table_csv : LayoutValue → List Entry → List ℕ
table_csv l es = text_of (table_lines l es)

-- the text of a table reads as its lines
abbrev pub TablesAreReadBack : Type 0
TablesAreReadBack = (l : LayoutValue) (es : List Entry)
    → records_of (table_csv l es) ≡ table_lines l es
