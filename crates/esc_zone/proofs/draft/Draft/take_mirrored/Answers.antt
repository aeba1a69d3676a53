use Rattle.std.proofs.Common.{ap, sym, ◌∙◌}
use Rattle.esc_zone.specs.declared.notes.Mirror.{Mirror}
use Rattle.esc_zone.specs.Mirrors.{original_of}
use Rattle.esc_zone.specs.Noted.{DraftNotes, draft_notes, with_mirror}
use Rattle.esc_zone.proofs.Noting.{on_ok_then}
use Rattle.esc_zone.proofs.Taken.{no_mirror}
use Rattle.esc_zone.proofs.draft.Draft.take_mirrored.Goals as goal

pub returns-in-Nothing : goal.returns-in-Nothing
returns-in-Nothing c =
    let d : DraftNotes = draft_notes c.args.self.now in
    no_mirror c.args.name.now d
    ∙ ap (λ (m : Mirror). with_mirror c.args.name.now (original_of m) d) (sym c.in-Nothing.is)

pub returns-in-Servers : goal.returns-in-Servers
returns-in-Servers c =
    let d : DraftNotes = draft_notes c.args.self.now in
    on_ok_then c.take_original.result _ _
    (λ e. e ∙ ap (λ (m : Mirror). with_mirror c.args.name.now (original_of m) d) (sym c.in-Servers.is))
    c.take_original.ensures

pub returns-in-Other : goal.returns-in-Other
returns-in-Other c =
    let d : DraftNotes = draft_notes c.args.self.now in
    no_mirror c.args.name.now d
    ∙ ap (λ (m : Mirror). with_mirror c.args.name.now (original_of m) d) (sym c.in-Other.is)
