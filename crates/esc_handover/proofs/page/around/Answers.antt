use Rattle.std.proofs.Common.{[]}
use Rattle.esc_html.specs.declared.tag.Tag.TheVariants as tag
use Rattle.esc_handover.proofs.Within.{within_both, within_first, within_element}
use Rattle.esc_handover.proofs.page.around.Goals as goal

pub returns : goal.returns
returns c =
    within_both c.args.sections c.element-2.result c.element-3.result
    (within_element tag.Main [] c.element.result c.args.sections c.element-2.result c.element-2.ensures)
    (within_first c.element-2.result _ c.element-3.result c.element-3.ensures)
