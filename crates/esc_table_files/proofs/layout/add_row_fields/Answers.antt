use Rattle.std.proofs.Common.{map, ap}
use Rattle.esc_table_files.proofs.Cells.{Cell, next_cell, no_cell}
use Rattle.esc_table_files.proofs.Gathered.{name_added}
use Rattle.esc_table_files.proofs.layout.add_row_fields.Goals.{in-Some+in_ok-add_name, in_default}
use Rattle.esc_table_files.proofs.layout.add_row_fields.Goals as goal

pub loop-at-preserved : goal.loop-at-preserved
loop-at-preserved c =
    let cells = c.args.row.now.cells in
    let at = c.loop-at.at in
    elim c.match-cell.branch [
      | in-Some+in_ok-add_name w ↦
          rw w.columns-is (name_added _ _ _ _ _ _ (ap (map (λ (y : Cell). y.0))
          (next_cell cells at _ w.in-Some.ensures)) c.loop-at.invariant w.in_ok-add_name.ensures)
      | in_default w ↦ absurd (no_cell
          cells at c.len-at-end.result c.len-at-end.ensures c.loop-at-test.true w.in_default.ensures)
    ]
