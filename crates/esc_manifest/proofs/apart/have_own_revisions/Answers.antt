use Rattle.std.proofs.Common.{sym, ◌∙◌}
use Rattle.std.proofs.lemmas.Bool.{not-true}
use Rattle.esc_manifest.specs.RowFaults.{same_revision}
use Rattle.esc_manifest.proofs.Keys.{one_more, all_apart}
use Rattle.esc_manifest.proofs.RevisionKeys.{revision_cmp, revision_of, revision_itself, one_revision_key}
use Rattle.esc_manifest.proofs.apart.have_own_revisions.Goals as goal

pub loop-row-preserved : goal.loop-row-preserved
loop-row-preserved c =
    one_more revision_cmp revision_of same_revision one_revision_key revision_itself
    c.args.rows.now c.loop-row.row-index c.row-item.result c.revision_of.result
    c.loop-row.seen c.insert.new.self c.loop-row-test.true c.row-item.is c.revision_of.ensures
    (not-true _ (sym c.in_ok-insert.ensures.added ∙ c.if-not-branch.false))
    c.in_ok-insert.ensures.updates c.loop-row.invariant

pub returns : goal.returns
returns c = λ own. all_apart revision_cmp revision_of same_revision
    c.args.rows.now c.loop-row.row-index c.loop-row.seen c.loop-row-test.false c.loop-row.invariant
