use Rattle.std.proofs.Common.{◌∙◌}
use Rattle.esc_zone.proofs.Taken.{names_none}
use Rattle.esc_zone.proofs.draft.Draft.note_original.Goals as goal

pub returns-in_default : goal.returns-in_default
returns-in_default c = names_none _

pub returns : goal.returns
returns c = (_, c.mark_original.ensures ∙ c.in_ok-note_place.ensures)
