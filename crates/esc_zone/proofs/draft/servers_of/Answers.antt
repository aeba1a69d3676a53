use Rattle.std.proofs.Common.{◌∙◌, ap, string_bytes}
use Rattle.esc_zone.specs.Delegations.{server_text, texts_of}
use Rattle.esc_zone.proofs.Listed.{parts_step}
use Rattle.esc_zone.proofs.draft.servers_of.Goals as goal

pub loop-row-preserved : goal.loop-row-preserved
loop-row-preserved c =
    ap texts_of c.in_ok-push_some.ensures
    ∙ parts_step string_bytes server_text c.args.rows.now c.loop-row.row-index c.row-item.result
    c.loop-row.servers.items c.in_ok-server_text.field-0 c.loop-row-test.true c.row-item.is
    c.in_ok-server_text.ensures c.loop-row.invariant
