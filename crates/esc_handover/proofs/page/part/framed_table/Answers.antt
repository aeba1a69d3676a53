use Rattle.std.proofs.Common.{[]}
use Rattle.esc_html.specs.declared.tag.Tag.TheVariants as tag
use Rattle.esc_handover.proofs.Within.{within_both, within_element}
use Rattle.esc_handover.proofs.page.part.framed_table.Goals as goal

pub returns : goal.returns
returns c =
    within_both c.args.rows c.element-inside.result c.framed.result
    (within_element tag.TableBody [] c.element-2.result c.args.rows c.element-inside.result c.element-inside.ensures)
    c.framed.ensures
