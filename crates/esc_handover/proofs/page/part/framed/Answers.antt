use Rattle.std.proofs.Common.{[], ◌∷◌}
use Rattle.std.specs.Prelude.{codes}
use Rattle.std.specs.Fmt.{decimal}
use Rattle.esc_html.specs.declared.tag.Tag.TheVariants as tag
use Rattle.esc_html.specs.declared.attribute.Attribute.TheVariants as attribute
use Rattle.esc_handover.proofs.Within.{within_both, within_element}
use Rattle.esc_handover.proofs.page.part.framed.Goals as goal

pub returns : goal.returns
returns c =
    within_both c.args.inside c.element-table.result c.element.result
    (within_element tag.Table [] c.new.result c.args.inside c.element-table.result c.element-table.ensures)
    (within_element tag.Block ((attribute.Class, codes "frame") ∷ (attribute.Role, codes "region")
    ∷ (attribute.Label, c.args.label.now) ∷ (attribute.Stop, decimal 0) ∷ [])
    c.new-2.result c.element-table.result c.element.result c.element.ensures)
