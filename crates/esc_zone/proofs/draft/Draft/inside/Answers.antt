use Rattle.std.proofs.Common.{◌∙◌, ap, string_bytes}
use Rattle.esc_zone.specs.Noted.{zone_server_in}
use Rattle.esc_zone.proofs.Listed.{parts_step_of}
use Rattle.esc_zone.proofs.draft.Draft.inside.Goals as goal

pub loop-text-preserved : goal.loop-text-preserved
loop-text-preserved c =
    let part = zone_server_in c.args.self.now.settings in
    c.in_ok-push_some.ensures
    ∙ parts_step_of string_bytes part c.args.texts.now c.loop-text.text-index c.text-item.result
    c.loop-text.hosts.items c.in_ok-zone_server.field-0 c.loop-text-test.true c.text-item.is
    (c.in_ok-zone_server.ensures ∙ ap part c.as_str.ensures.value) c.loop-text.invariant
