-- How large the objects of a deposit can be.
use Rattle.std.specs.Prelude.{◌≤◌, length, All}
use Rattle.esc_bundle.specs.Bundle.{limit}
use Rattle.esc_tables.specs.ObjectValue.{RowValue, ObjectValue}
use Rattle.esc_tables.specs.Reading.{most_rows}

-- names of at most 64 bytes, at most 64 cells, and no text longer than a bundle may be
pub record IsSmallRow (row : RowValue) : Type 0 where
  pub table : length row.table ≤ 64
  pub few : length row.cells ≤ 64
  pub cells : All (λ c. (length c.0 ≤ 64) × (length c.1 ≤ limit)) row.cells

-- small rows, and no more child rows than a bundle may have rows
pub record IsSmallObject (o : ObjectValue) : Type 0 where
  pub parent : IsSmallRow o.parent
  pub children : All IsSmallRow o.children
  pub few : length o.children ≤ most_rows
