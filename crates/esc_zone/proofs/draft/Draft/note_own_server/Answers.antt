use Rattle.std.proofs.Common.{subst, sym, ◌∙◌}
use Rattle.esc_zone.specs.Noted.{DraftNotes, IsFresh}
use Rattle.esc_zone.proofs.Taken.{fresh_more}
use Rattle.esc_zone.proofs.draft.Draft.note_own_server.Goals as goal

pub returns : goal.returns
returns c = λ f.
    subst (λ (n : DraftNotes). IsFresh n) (sym (c.set_own_user.ensures ∙ c.in_ok-note_server.ensures))
    (fresh_more _ _ _ f)
