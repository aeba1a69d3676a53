use Rattle.std.proofs.Common.{◌∙◌, ap}
use Rattle.esc_zone.specs.Noted.{DraftNotes, draft_notes, texts_above, with_own}
use Rattle.esc_zone.proofs.Noting.{settled_step}
use Rattle.esc_zone.proofs.draft.Draft.settle_named.Goals as goal

pub loop-name-preserved : goal.loop-name-preserved
loop-name-preserved c =
    let d : DraftNotes = draft_notes c.args.self.now in
    let name = c.name-item.result in
    c.in_ok-settle_server.ensures
    ∙ ap (λ (n : DraftNotes). with_own name (texts_above n name) n) c.loop-name.invariant
    ∙ settled_step d c.args.names.now c.loop-name.name-index name c.loop-name-test.true c.name-item.is
