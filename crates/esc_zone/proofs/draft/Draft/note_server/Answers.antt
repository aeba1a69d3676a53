use mathlib.Core.Path.{fun_ext}
use Rattle.std.proofs.Common.{List, ℕ, Some, ◌∙◌, ap, false, Bool}
use Rattle.esc_zone.specs.Noted.{DraftNotes, draft_notes, with_noted, is_among_names, zone_names}
use Rattle.esc_zone.specs.Names.{name_eq}
use Rattle.esc_zone.proofs.Noting.{with_both_noted, on_ok_then, or_false}
use Rattle.esc_zone.proofs.draft.Draft.note_server.Goals as goal

pub returns : goal.returns
returns c =
    let d : DraftNotes = draft_notes c.args.self.now in
    let s = c.args.self.now.settings in
    let host = c.args.host.now in
    let none : List ℕ → Bool = λ q. false in
    let names = λ (h : List ℕ). is_among_names (zone_names s (Some h)) in
    let first = c.in_ok-first.first in
    on_ok_then c.note_names.result _ _
    (λ e. e
    ∙ ap (λ (n : DraftNotes). with_noted none (is_among_names (zone_names n.settings (Some first))) n)
    c.in_ok-note_host.ensures
    ∙ ap (λ (h : List ℕ). with_noted none (names h) (with_noted (name_eq host) none d)) c.in_ok-first.ensures
    ∙ with_both_noted (name_eq host) none none (names host) d
    ∙ ap (λ (t : List ℕ → Bool). with_noted t (names host) d) (fun_ext (λ q. or_false (name_eq host q))))
    c.note_names.ensures
