use Rattle.std.proofs.Common.{take}
use Rattle.std.specs.List.{flat_map}
use Rattle.esc_bundle.specs.Bundle.{views}
use Rattle.esc_tables.specs.TableRow.{keyed}
use Rattle.esc_tables.specs.Survey.{AreSurveyed}
use Rattle.esc_tables.proofs.ReadFacts.{if_parent}
use Rattle.esc_tables.proofs.tables.read_parents.Given as goal

abbrev pub invariant-loop-table : goal.invariant-loop-table
invariant-loop-table l = AreSurveyed keyed (flat_map (if_parent (views l.files))
    (take l.table-index l.tables)) (l.fn.survey, l.fn.found.items) (l.survey, l.found.items)
