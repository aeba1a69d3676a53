use Rattle.std.proofs.lemmas.Result.{err_from_is_err_and}
use Rattle.esc_bundle.specs.Bundle.{views}
use Rattle.esc_tables.specs.TableRow.{table_rows}
use Rattle.esc_tables.proofs.ReadFacts.{piece_read, all_read, piece_refused}
use Rattle.esc_tables.proofs.tables.read_deletes.Goals as goal

pub loop-table-preserved : goal.loop-table-preserved
loop-table-preserved c =
    piece_read (table_rows (views c.args.files.now)) c.args.deletes.now
    c.loop-table.table-index c.table-item.result c.loop-table-test.true c.table-item.is
    c.loop-table.invariant c.in_ok-survey.ensures.read

pub returns-clause-read : goal.returns-clause-read
returns-clause-read c = all_read (table_rows (views c.args.files.now))
    c.args.deletes.now c.loop-table.table-index c.loop-table-test.false c.loop-table.invariant

pub returns-in_err-survey-clause-refused : goal.returns-in_err-survey-clause-refused
returns-in_err-survey-clause-refused c =
    let p = err_from_is_err_and c.from_residual.result c.from_residual.ensures.1 in
    rw (p.1, p.2)
    (piece_refused (table_rows (views c.args.files.now)) c.args.deletes.now c.loop-table.table-index
    c.table-item.result _ c.loop-table-test.true c.table-item.is c.in_err-survey.ensures.refused)
