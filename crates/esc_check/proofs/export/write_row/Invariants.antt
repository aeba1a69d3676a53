use Rattle.std.proofs.Common.{◌≡◌, ◌++◌, drop}
use Rattle.esc_csv.specs.Lines.{text_of}
use Rattle.esc_check.specs.Export.{row_lines}
use Rattle.esc_check.proofs.Writing.{cells_text}
use Rattle.esc_check.proofs.export.write_row.Given as goal

abbrev pub invariant-loop-at : goal.invariant-loop-at
invariant-loop-at l =
    l.lines ++ cells_text l.key l.fn.number l.row.table (drop l.at l.row.cells)
    ≡ l.initial.lines ++ text_of (row_lines l.key l.fn.number l.row)
