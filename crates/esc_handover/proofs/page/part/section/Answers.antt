use Rattle.std.proofs.Common.{[], ◌∷◌}
use Rattle.esc_html.specs.declared.tag.Tag.TheVariants as tag
use Rattle.esc_html.specs.declared.attribute.Attribute.TheVariants as attribute
use Rattle.esc_handover.proofs.Within.{within_both, within_second, within_element}
use Rattle.esc_handover.proofs.page.part.section.Goals as goal

pub returns : goal.returns
returns c =
    within_both c.args.inside c.add-whole.result c.element.result
    (within_second c.leaf.result c.args.inside c.add-whole.result c.add-whole.ensures)
    (within_element tag.Section ((attribute.Id, c.args.id.now) ∷ []) c.new.result c.add-whole.result
    c.element.result c.element.ensures)
