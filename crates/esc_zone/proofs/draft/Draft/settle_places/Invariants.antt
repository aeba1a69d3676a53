use Rattle.std.proofs.Common.{take}
use Rattle.esc_zone.specs.Noted.{draft_notes, SettlesNames}
use Rattle.esc_zone.proofs.draft.Draft.settle_places.Given as goal

abbrev pub invariant-loop-name : goal.invariant-loop-name
invariant-loop-name l = SettlesNames (take l.name-index l.names) (draft_notes l.fn.self) (draft_notes l.self)
