use Rattle.std.proofs.Common.{sym, ◌∙◌}
use Rattle.esc_pack.specs.Describing.{unknown_of}
use Rattle.esc_pack.proofs.Gathered.{added, none_added}
use Rattle.esc_pack.proofs.draft.unknown_files.Goals as goal

pub loop-file-preserved : goal.loop-file-preserved
loop-file-preserved c =
    added (unknown_of c.args.files.now)
    c.args.files.now _ c.loop-file-test.true c.file-item.is (sym c.in-Some.is ∙ c.in_ok-one.ensures)
    c.loop-file.invariant c.in_ok-push.ensures.items

pub loop-file-preserved-in_default : goal.loop-file-preserved-in_default
loop-file-preserved-in_default c =
    none_added (unknown_of c.args.files.now) c.args.files.now
    _ c.loop-file-test.true c.file-item.is (sym c.in_default.is ∙ c.in_ok-one.ensures)
    c.loop-file.invariant
