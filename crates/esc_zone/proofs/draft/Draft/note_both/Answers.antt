use Rattle.esc_zone.specs.Noted.{draft_notes}
use Rattle.esc_zone.proofs.Taken.{names_more}
use Rattle.esc_zone.proofs.draft.Draft.note_both.Goals as goal

pub returns : goal.returns
returns c =
    names_more (draft_notes c.args.self.now) (draft_notes c.note_original.new.self)
    (draft_notes c.note_with_above.new.self) c.in_ok-note_original.ensures c.in_ok-note_with_above.ensures
