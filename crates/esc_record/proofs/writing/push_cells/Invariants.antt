use Rattle.esc_record.specs.Record.{is_small_cell, cell_bytes}
use Rattle.esc_record.proofs.Pushed.{IsPushed}
use Rattle.esc_record.proofs.writing.push_cells.Given as goal

abbrev pub invariant-loop-at : goal.invariant-loop-at
invariant-loop-at l = IsPushed is_small_cell cell_bytes l.fn.row.cells l.fn.bytes.items l.at l.bytes.items
