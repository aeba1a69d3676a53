use Rattle.std.proofs.Common.{◌∙◌, sym}
use Rattle.esc_pack.specs.Describing.{heading_in}
use Rattle.esc_pack.proofs.Gathered.{none_added, first_made}
use Rattle.esc_pack.proofs.draft.fields_in.Goals as goal

pub returns-in-Some : goal.returns-in-Some
returns-in-Some c =
    first_made (heading_in c.args.table) c.args.files.now c.loop-file-test.true c.file-item.is c.loop-file.invariant
    (sym c.in-Some.is ∙ c.in_ok-heading.ensures)

pub loop-file-preserved : goal.loop-file-preserved
loop-file-preserved c =
    sym
    (none_added (heading_in c.args.table) c.args.files.now
    _ c.loop-file-test.true c.file-item.is (sym c.in_default.is ∙ c.in_ok-heading.ensures)
    (sym c.loop-file.invariant))
