use Rattle.std.proofs.Common.{Some}
use Rattle.esc_handover.specs.PageParts.{counted_heading}
use Rattle.esc_handover.proofs.Within.{within_both, within_first, within_exact}
use Rattle.esc_handover.proofs.page.part.counted_table.Goals as goal

pub returns : goal.returns
returns c = λ some.
    within_both (Some (counted_heading c.args.heading.now c.args.count)) c.counted_heading.result c.add.result
    (within_exact _ c.counted_heading.result c.counted_heading.ensures)
    (within_first c.counted_heading.result c.framed_table-rest.result c.add.result c.add.ensures)
