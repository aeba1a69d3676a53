use Rattle.std.proofs.Common.{◌∙◌, ap, string_bytes}
use Rattle.esc_zone.specs.declared.address.Said.{Said}
use Rattle.esc_zone.specs.Addresses.{said_texts}
use Rattle.esc_zone.specs.Noted.{attribute_value, text_for}
use Rattle.esc_zone.proofs.Listed.{parts_step_both}
use Rattle.esc_zone.proofs.settling.said_for.Goals as goal

pub loop-attribute-preserved : goal.loop-attribute-preserved
loop-attribute-preserved c =
    ap said_texts c.in_ok-push_some.ensures
    ∙ parts_step_both (λ (s : Said). string_bytes s.text) attribute_value (text_for c.args.host.now)
    c.args.attributes.now c.loop-attribute.attribute-index c.attribute-item.result c.loop-attribute.rows.items
    c.in_ok-said_of.field-0 c.loop-attribute-test.true c.attribute-item.is c.in_ok-said_of.ensures
    c.loop-attribute.invariant
