use Rattle.esc_zone.specs.Noted.{IsFresh, draft_notes}
use Rattle.esc_zone.proofs.draft.Draft.note_own_servers.Given as goal

abbrev pub invariant-loop-name : goal.invariant-loop-name
invariant-loop-name l = IsFresh (draft_notes l.fn.self) → IsFresh (draft_notes l.self)
