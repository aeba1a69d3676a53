use Rattle.std.proofs.Common.{◌∙◌, ap, map}
use Rattle.esc_zone.specs.Noted.{attribute_value, said_in_row, draft_notes}
use Rattle.esc_zone.proofs.Listed.{parts_step}
use Rattle.esc_zone.proofs.draft.Draft.attributes.Goals as goal

pub loop-row-preserved : goal.loop-row-preserved
loop-row-preserved c =
    ap (map attribute_value) c.in_ok-push_some.ensures
    ∙ parts_step attribute_value (said_in_row (draft_notes c.args.self.now)) c.args.rows.now
    c.loop-row.row-index c.row-item.result c.loop-row.attributes.items c.in_ok-attribute_in.field-0
    c.loop-row-test.true c.row-item.is c.in_ok-attribute_in.ensures c.loop-row.invariant
