use Rattle.esc_zone.proofs.Taken.{names_none}
use Rattle.esc_zone.proofs.draft.Draft.note_mirrored.Goals as goal

pub returns-in-Nothing : goal.returns-in-Nothing
returns-in-Nothing c = names_none _
