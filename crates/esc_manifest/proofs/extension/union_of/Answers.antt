use Rattle.std.proofs.Common.{◌∙◌, ◌++◌, List, ap}
use Rattle.std.proofs.lemmas.List.{take_all}
use Rattle.esc_manifest.specs.declared.row.MRow.{MRow}
use Rattle.esc_manifest.specs.Extension.{new_rows}
use Rattle.esc_manifest.proofs.extension.union_of.Goals as goal

pub returns : goal.returns
returns c = c.loop-row.invariant ∙ ap (λ (more : List MRow). c.args.rows.now ++ new_rows
    c.args.rows.now more) (take_all c.loop-row.row-index c.args.more.now c.loop-row-test.false)
