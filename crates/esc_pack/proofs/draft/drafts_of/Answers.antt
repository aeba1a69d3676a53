use Rattle.std.proofs.Common.{sym, refl, ◌∙◌}
use Rattle.esc_pack.specs.Describing.{draft_of}
use Rattle.esc_pack.proofs.Gathered.{added, none_added}
use Rattle.esc_pack.proofs.draft.drafts_of.Goals as goal

pub loop-table-preserved : goal.loop-table-preserved
loop-table-preserved c =
    added (draft_of c.args.files.now)
    c.args.tables.now _ c.loop-table-test.true refl (sym c.in-Some.is ∙ c.in_ok-draft.ensures)
    c.loop-table.invariant c.in_ok-push.ensures.items

pub loop-table-preserved-in_default : goal.loop-table-preserved-in_default
loop-table-preserved-in_default c =
    none_added (draft_of c.args.files.now)
    c.args.tables.now _ c.loop-table-test.true refl (sym c.in_default.is ∙ c.in_ok-draft.ensures)
    c.loop-table.invariant
