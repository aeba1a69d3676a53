use Rattle.std.proofs.Common.{◌≡◌, ◌∙◌, true, false, sym, ap}
use Rattle.std.proofs.lemmas.Result.{err_from_is_err_and}
use Rattle.esc_bundle.specs.Bundle.{views}
use Rattle.esc_envelope.specs.EnvelopeValue.{TableValue}
use Rattle.esc_tables.specs.TableRow.{keyed}
use Rattle.esc_tables.proofs.ReadFacts.{none_read, piece_read, all_read, piece_refused, if_parent}
use Rattle.esc_tables.proofs.ReadFacts.{of_parent, of_other, all_parents}
use Rattle.esc_tables.proofs.tables.read_parents.Goals as goal

pub loop-table-preserved : goal.loop-table-preserved
loop-table-preserved c =
    let parent : c.table-item.result.parent ≡ true =
    sym (ap (λ (u : TableValue). u.parent) c.table.view_is) ∙ c.if-not-table.false in
    piece_read (if_parent (views c.args.files.now)) c.args.tables.now
    c.loop-table.table-index c.table-item.result c.loop-table-test.true c.table-item.is
    c.loop-table.invariant
    (rw (of_parent (views c.args.files.now) c.table-item.result parent) c.in_ok-survey.ensures.read)

pub loop-table-preserved-then-not-table : goal.loop-table-preserved-then-not-table
loop-table-preserved-then-not-table c =
    let other : c.table-item.result.parent ≡ false =
    sym (ap (λ (u : TableValue). u.parent) c.table.view_is) ∙ c.if-not-table.true in
    piece_read (if_parent (views c.args.files.now)) c.args.tables.now
    c.loop-table.table-index c.table-item.result c.loop-table-test.true c.table-item.is
    c.loop-table.invariant (rw (of_other (views c.args.files.now) c.table-item.result other)
    (none_read keyed c.loop-table.survey c.loop-table.found.items))

pub returns-clause-read : goal.returns-clause-read
returns-clause-read c =
    let files = views c.args.files.now in
    rw (← all_parents files c.args.tables.now) (all_read (if_parent files)
    c.args.tables.now c.loop-table.table-index c.loop-table-test.false c.loop-table.invariant)

pub returns-in_err-survey-clause-refused : goal.returns-in_err-survey-clause-refused
returns-in_err-survey-clause-refused c =
    let parent : c.table-item.result.parent ≡ true =
    sym (ap (λ (u : TableValue). u.parent) c.table.view_is) ∙ c.if-not-table.false in
    let files = views c.args.files.now in
    let p = err_from_is_err_and c.from_residual.result c.from_residual.ensures.1 in
    rw (p.1, p.2, ← all_parents files c.args.tables.now)
    (piece_refused (if_parent files) c.args.tables.now
    c.loop-table.table-index c.table-item.result _ c.loop-table-test.true c.table-item.is
    (rw (of_parent files c.table-item.result parent) c.in_err-survey.ensures.refused))
