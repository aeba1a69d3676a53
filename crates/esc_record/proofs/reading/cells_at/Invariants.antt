use Rattle.std.proofs.Common.{map}
use Rattle.std.specs.Str.{is_utf8}
use Rattle.esc_record.specs.Reading.{cell_in_front}
use Rattle.esc_record.proofs.Readings.{Reads}
use Rattle.esc_record.proofs.reading.cells_at.Given as goal

abbrev pub invariant-loop : goal.invariant-loop
invariant-loop l = Reads (cell_in_front is_utf8)
    l.fn.count l.fn.bytes l.counter (map (λ c. (c.0.now, c.1.now)) l.cells.items) l.rest
