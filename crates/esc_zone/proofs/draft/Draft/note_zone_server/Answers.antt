use Rattle.std.proofs.Common.{List, ℕ, Some, Bool, ◌∙◌, ap, sym}
use Rattle.std.specs.Prelude.{◌&&◌}
use Rattle.esc_zone.specs.Noted.{DraftNotes, draft_notes, with_noted, is_among_names, zone_names, is_zone_server}
use Rattle.esc_zone.specs.Names.{name_eq}
use Rattle.esc_zone.proofs.Added.{made_if}
use Rattle.esc_zone.proofs.draft.Draft.note_zone_server.Goals as goal

pub returns-in_ok-note_server : goal.returns-in_ok-note_server
returns-in_ok-note_server c =
    let d : DraftNotes = draft_notes c.args.self.now in
    let s = c.args.self.now.settings in
    let text = c.args.text.now in
    let made = made_if (is_zone_server s text) text c.in-Some.host (sym c.in-Some.is ∙ c.in_ok-host.ensures) in
    let names = λ (h : List ℕ). is_among_names (zone_names s (Some h)) in
    c.in_ok-note_server.ensures
    ∙ ap (λ (h : List ℕ). with_noted (name_eq h) (names h) d) (sym made.1)
    ∙ ap (λ (b : Bool). with_noted (λ q. b && name_eq text q) (λ q. b && names text q) d) (sym made.0)
