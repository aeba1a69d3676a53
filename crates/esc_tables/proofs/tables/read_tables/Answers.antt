use Rattle.std.specs.Borrow.{Bor}
use Rattle.std.proofs.Common.{List}
use Rattle.std.proofs.lemmas.List.Folds.{flat_map-map}
use Rattle.std.proofs.lemmas.Result.{err_from_is_err_and}
use Rattle.esc_bundle.specs.Bundle.{Named, views}
use Rattle.esc_envelope.specs.EnvelopeValue.{TableValue}
use Rattle.esc_tables.specs.TableRow.{TableRow, table_rows}
use Rattle.esc_tables.proofs.OrderFacts.{pointed}
use Rattle.esc_tables.proofs.ReadFacts.{piece_read, all_read, piece_refused}
use Rattle.esc_tables.proofs.tables.read_tables.Goals as goal

abbrev pointed_rows : List Named → Bor TableValue → List TableRow
pointed_rows files t = table_rows files t.now

pub loop-table-preserved : goal.loop-table-preserved
loop-table-preserved c =
    piece_read (pointed_rows (views c.args.files.now)) c.args.tables.now
    c.loop-table.table-index c.table-item.result c.loop-table-test.true c.table-item.is
    c.loop-table.invariant c.in_ok-survey.ensures.read

pub returns-clause-read : goal.returns-clause-read
returns-clause-read c =
    let files = views c.args.files.now in
    rw (flat_map-map (table_rows files) pointed c.args.tables.now) (all_read (pointed_rows files)
    c.args.tables.now c.loop-table.table-index c.loop-table-test.false c.loop-table.invariant)

pub returns-in_err-survey-clause-refused : goal.returns-in_err-survey-clause-refused
returns-in_err-survey-clause-refused c =
    let files = views c.args.files.now in
    let p = err_from_is_err_and c.from_residual.result c.from_residual.ensures.1 in
    rw (p.1, p.2, flat_map-map (table_rows files) pointed c.args.tables.now)
    (piece_refused (pointed_rows files) c.args.tables.now c.loop-table.table-index
    c.table-item.result _ c.loop-table-test.true c.table-item.is c.in_err-survey.ensures.refused)
