use Rattle.esc_record.specs.Record.{is_small_row, row_bytes}
use Rattle.esc_record.proofs.Pushed.{IsPushed}
use Rattle.esc_record.proofs.writing.push_rows.Given as goal

abbrev pub invariant-loop-row : goal.invariant-loop-row
invariant-loop-row l = IsPushed is_small_row row_bytes l.fn.rows l.fn.bytes.items l.row-index l.bytes.items
