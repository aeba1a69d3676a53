use Rattle.std.proofs.Common.{◌≡◌, map, length}
use Rattle.std.specs.List.{list_all}
use Rattle.esc_tables.specs.TableRow.{in_table, is_whole}
use Rattle.esc_tables.specs.Survey.{AreSurveyed}
use Rattle.esc_tables.proofs.tables.read_records.Given as goal

abbrev pub invariant-loop-row : goal.invariant-loop-row
invariant-loop-row g l = record {
  whole : list_all is_whole (map (in_table l.table) l.rows) ≡ list_all is_whole (map (in_table l.table) l.fn.rows);
  read : (after : _) → AreSurveyed g.T.FromRow.of_row (map (in_table l.table) l.rows) (l.survey, l.found.items) after
      → AreSurveyed g.T.FromRow.of_row (map (in_table l.table) l.fn.rows) (l.fn.survey, l.fn.found.items) after;
}

abbrev pub decreases-loop-row : goal.decreases-loop-row
decreases-loop-row g l = length l.rows
