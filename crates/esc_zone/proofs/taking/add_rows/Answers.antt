use Rattle.std.proofs.Common.{◌∙◌, ap, string_bytes}
use Rattle.esc_zone.specs.declared.address.Said.{Said}
use Rattle.esc_zone.specs.Addresses.{said_texts}
use Rattle.esc_zone.specs.Noted.{host_text}
use Rattle.esc_zone.proofs.Listed.{parts_step_after}
use Rattle.esc_zone.proofs.taking.add_rows.Goals as goal

pub loop-row-preserved : goal.loop-row-preserved
loop-row-preserved c =
    ap said_texts c.in_ok-push_some.ensures
    ∙ parts_step_after (λ (s : Said). string_bytes s.text) host_text c.args.rows.now c.loop-row.row-index
    c.row-item.result c.loop-row.said.items (said_texts c.args.said.now.items) c.in_ok-host_said.field-0
    c.loop-row-test.true c.row-item.is c.in_ok-host_said.ensures c.loop-row.invariant
