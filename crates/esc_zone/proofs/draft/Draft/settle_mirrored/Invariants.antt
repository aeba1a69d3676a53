use Rattle.std.proofs.Common.{take}
use Rattle.esc_zone.specs.Noted.{draft_notes, SettlesMirrors}
use Rattle.esc_zone.proofs.draft.Draft.settle_mirrored.Given as goal

abbrev pub invariant-loop-name : goal.invariant-loop-name
invariant-loop-name l = SettlesMirrors (take l.name-index l.names) (draft_notes l.fn.self) (draft_notes l.self)
