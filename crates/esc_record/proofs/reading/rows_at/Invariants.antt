use Rattle.std.specs.Str.{is_utf8}
use Rattle.esc_record.specs.Reading.{row_in_front}
use Rattle.esc_record.proofs.Readings.{Reads}
use Rattle.esc_record.proofs.reading.rows_at.Given as goal

abbrev pub invariant-loop : goal.invariant-loop
invariant-loop l = Reads (row_in_front is_utf8) l.fn.count l.fn.bytes l.counter l.rows.items l.rest
