-- The record of an object: its bytes in the database (this project's profile).
use Rattle.std.specs.Prelude.{ℕ, ◌^◌, Bool, ◌&&◌, nat_lt, if◌then◌else◌, List, ◌∷◌, ◌++◌}
use Rattle.std.specs.Prelude.{length}
use Rattle.std.specs.Prelude.{Option, None, Some}
use Rattle.std.specs.List.{AllByRecursion, list_all, flat_map}
use Rattle.std.specs.Int.{to_be_bytes, w32}
use Rattle.std.specs.Str.{IsUtf8}
use Rattle.esc_tables.specs.ObjectValue.{RowValue, ObjectValue}

-- a number: four bytes, the greatest first
unfoldable pub number_bytes : ℕ → List ℕ
number_bytes n = to_be_bytes w32 n

-- a text: its length, then its bytes
abbrev pub text_bytes : List ℕ → List ℕ
text_bytes text = number_bytes (length text) ++ text

-- a cell: field and value
abbrev pub cell_bytes : List ℕ × List ℕ → List ℕ
cell_bytes cell = text_bytes cell.0 ++ text_bytes cell.1

-- a row: its table, the number of its cells, then the cells
abbrev pub row_bytes : RowValue → List ℕ
row_bytes row = text_bytes row.table
    ++ (number_bytes (length row.cells) ++ flat_map cell_bytes row.cells)

-- the parent, then the children
abbrev pub object_rows : ObjectValue → List RowValue
object_rows o = o.parent ∷ o.children

-- the number of rows, then the rows
abbrev pub object_bytes : ObjectValue → List ℕ
object_bytes o = number_bytes (length (object_rows o)) ++ flat_map row_bytes (object_rows o)

-- the number fits four bytes
abbrev pub is_small : ℕ → Bool
is_small n = nat_lt n (2 ^ 32)

abbrev pub is_small_cell : List ℕ × List ℕ → Bool
is_small_cell cell = is_small (length cell.0) && is_small (length cell.1)

abbrev pub is_small_row : RowValue → Bool
is_small_row row = is_small (length row.table) && is_small (length row.cells)
    && list_all is_small_cell row.cells

-- each length and count fits four bytes
abbrev pub is_small_object : ObjectValue → Bool
is_small_object o = is_small (length (object_rows o)) && list_all is_small_row (object_rows o)

-- the record of an object, if each length and count fits four bytes
unfoldable pub record_of : ObjectValue → Option (List ℕ)
record_of o = if is_small_object o then Some (object_bytes o) else None

abbrev pub IsCellOfTexts : List ℕ × List ℕ → Type 0
IsCellOfTexts cell = IsUtf8 cell.0 × IsUtf8 cell.1

-- table, fields and values are texts
pub record IsRowOfTexts (row : RowValue) : Type 0 where
  pub table : IsUtf8 row.table
  pub cells : AllByRecursion IsCellOfTexts row.cells

-- each text of an object is UTF-8, as texts of the program are
abbrev pub IsOfTexts : ObjectValue → Type 0
IsOfTexts o = AllByRecursion IsRowOfTexts (object_rows o)
