use Rattle.std.proofs.Common.{List, ℕ, Bool, false, ◌∙◌, ap}
use Rattle.esc_zone.specs.Noted.{DraftNotes, draft_notes, with_noted, is_among_names, zone_names}
use Rattle.esc_zone.specs.Noted.{is_server_at, is_above_server}
use Rattle.esc_zone.specs.Names.{name_above}
use Rattle.esc_zone.proofs.Noting.{with_both_noted}
use Rattle.esc_zone.proofs.draft.Draft.note_use.Goals as goal

pub returns : goal.returns
returns c =
    let d : DraftNotes = draft_notes c.args.self.now in
    let s = c.args.self.now.settings in
    let text = c.args.text.now in
    let none : List ℕ → Bool = λ q. false in
    c.in_ok-note_zone_server.ensures
    ∙ ap (λ (n : DraftNotes). with_noted (is_server_at n.settings text) (is_above_server n.settings text) n)
    c.in_ok-note_above.ensures
    ∙ with_both_noted none (is_among_names (zone_names s (name_above c.args.name.now)))
    (is_server_at s text) (is_above_server s text) d
