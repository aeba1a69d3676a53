-- The tables of a store that hold its content: every one but `info`. A new table is a case of
-- `StoreTable` and of each function here.
use Rattle.std.specs.Prelude.{ℕ, ℤ, ◌∷◌}
use Rattle.sqlite_value.specs.declared.value.Value.TheVariants.{Int}
use Rattle.sqlite_value.specs.Order.{Row}
use Rattle.sqlite_schema.specs.declared.schema.Table.{Table}
use Rattle.esc_sql.specs.Schema.{listed_table, receipt_table, held_table, step_table, object_table}
use Rattle.esc_sql.specs.Schema.{undo_table, parked_table, moment_table}
use Rattle.esc_sql.specs.Rows.{ListedRow, ReceiptRow, HeldRow, StepRow, ObjectRow, UndoRow}
use Rattle.esc_sql.specs.Rows.{ParkedRow, MomentRow, listed_number, receipt_number, held_number}
use Rattle.esc_sql.specs.Rows.{step_number, object_number, undo_number, parked_number}
use Rattle.esc_sql.specs.Rows.{moment_number, listed_columns, receipt_columns, held_columns}
use Rattle.esc_sql.specs.Rows.{step_columns, object_columns, undo_columns, parked_columns}
use Rattle.esc_sql.specs.Rows.{moment_columns}

pub data StoreTable : Type 0 where
  Listed : StoreTable
  Receipts : StoreTable
  Held : StoreTable
  Steps : StoreTable
  Objects : StoreTable
  Undo : StoreTable
  Parked : StoreTable
  Moment : StoreTable

-- the index of a table in the schema, from 0
abbrev pub table_index : StoreTable → ℕ
table_index Listed = 1
table_index Receipts = 2
table_index Held = 3
table_index Steps = 4
table_index Objects = 5
table_index Undo = 6
table_index Parked = 7
table_index Moment = 8

abbrev pub schema_table : StoreTable → Table
schema_table Listed = listed_table
schema_table Receipts = receipt_table
schema_table Held = held_table
schema_table Steps = step_table
schema_table Objects = object_table
schema_table Undo = undo_table
schema_table Parked = parked_table
schema_table Moment = moment_table

-- the number of a table's tree
abbrev pub tree_of : StoreTable → ℕ
tree_of t = (schema_table t).tree

-- the typed rows of a table
abbrev pub RowOf : StoreTable → Type 0
RowOf Listed = ListedRow
RowOf Receipts = ReceiptRow
RowOf Held = HeldRow
RowOf Steps = StepRow
RowOf Objects = ObjectRow
RowOf Undo = UndoRow
RowOf Parked = ParkedRow
RowOf Moment = MomentRow

-- the rowid of a row, by which its table is in order
abbrev pub row_number : (t : StoreTable) → RowOf t → ℤ
row_number Listed = listed_number
row_number Receipts = receipt_number
row_number Held = held_number
row_number Steps = step_number
row_number Objects = object_number
row_number Undo = undo_number
row_number Parked = parked_number
row_number Moment = moment_number

abbrev pub row_columns : (t : StoreTable) → RowOf t → Row
row_columns Listed = listed_columns
row_columns Receipts = receipt_columns
row_columns Held = held_columns
row_columns Steps = step_columns
row_columns Objects = object_columns
row_columns Undo = undo_columns
row_columns Parked = parked_columns
row_columns Moment = moment_columns

-- a row as its tree keeps it: the rowid, and then the columns
abbrev pub stored_row : (t : StoreTable) → RowOf t → Row
stored_row t x = Int (row_number t x) ∷ row_columns t x
