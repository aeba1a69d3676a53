-- Rows and objects as values; texts are their bytes.
use Rattle.std.specs.Prelude.{ℕ, List}

-- what the rows of a table have in common: its name, and the names of its fields in the declared
-- order
pub record HeadingValue : Type 0 where
  pub name : List ℕ
  pub fields : List (List ℕ)

-- a table's name, and of each cell its field and its text, in the declared order
pub record RowValue : Type 0 where
  pub table : List ℕ
  pub cells : List (List ℕ × List ℕ)

-- a parent row, and the child rows of its key
pub record ObjectValue : Type 0 where
  pub parent : RowValue
  pub children : List RowValue
