use Rattle.std.proofs.Common.{take}
use Rattle.std.specs.List.{flat_map}
use Rattle.esc_bundle.specs.Bundle.{views}
use Rattle.esc_tables.specs.TableRow.{table_rows, keyed}
use Rattle.esc_tables.specs.Survey.{AreSurveyed}
use Rattle.esc_tables.proofs.tables.read_tables.Given as goal

abbrev pub invariant-loop-table : goal.invariant-loop-table
invariant-loop-table l = AreSurveyed keyed (flat_map (λ t. table_rows (views l.files) t.now)
    (take l.table-index l.tables)) (l.fn.survey, l.fn.found.items) (l.survey, l.found.items)
