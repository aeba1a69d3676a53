use Rattle.std.proofs.Common.{take}
use Rattle.esc_bundle.specs.Bundle.{views}
use Rattle.esc_tables.specs.TableRow.{rows_in, key_of}
use Rattle.esc_tables.specs.Survey.{AreSurveyed}
use Rattle.esc_tables.proofs.tables.read_deletes.Given as goal

abbrev pub invariant-loop-table : goal.invariant-loop-table
invariant-loop-table l = AreSurveyed key_of (rows_in (views l.files) (take l.table-index l.deletes))
    (l.fn.survey, l.fn.found.items) (l.survey, l.found.items)
