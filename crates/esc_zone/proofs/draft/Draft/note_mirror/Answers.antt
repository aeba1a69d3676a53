use Rattle.std.proofs.Common.{subst}
use Rattle.esc_zone.specs.Noted.{DraftNotes, NotesNames, draft_notes}
use Rattle.esc_zone.proofs.Taken.{names_none}
use Rattle.esc_zone.proofs.draft.Draft.note_mirror.Goals as goal

pub returns-in_default : goal.returns-in_default
returns-in_default c = names_none _

pub returns : goal.returns
returns c =
    subst (λ (n : DraftNotes). NotesNames n (draft_notes c.note_mirrored.new.self)) c.in_ok-note_odd.ensures
    c.in_ok-note_mirrored.ensures
