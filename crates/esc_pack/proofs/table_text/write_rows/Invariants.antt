use Rattle.std.proofs.Common.{◌≡◌, ◌++◌, length, drop}
use Rattle.std.specs.List.{list_all}
use Rattle.esc_csv.specs.Lines.{text_of}
use Rattle.esc_pack.specs.GivenRows.{has_width}
use Rattle.esc_pack.proofs.table_text.write_rows.Given as goal

-- what was written, and the rows that are left
abbrev pub invariant-loop-record : goal.invariant-loop-record
invariant-loop-record l = record {
  written : l.lines ++ text_of l.rows ≡ l.fn.lines ++ text_of l.fn.rows;
  whole : list_all (has_width l.width) l.rows ≡ list_all (has_width l.width) l.fn.rows;
  passed : drop l.row l.fn.rows ≡ l.rows;
}

abbrev pub decreases-loop-record : goal.decreases-loop-record
decreases-loop-record l = length l.rows
