use Rattle.std.proofs.Common.{◌≡◌, take}
use Rattle.esc_zone.specs.Noted.{draft_notes, settled_among}
use Rattle.esc_zone.proofs.draft.Draft.settle_named.Given as goal

-- the servers so far are settled
abbrev pub invariant-loop-name : goal.invariant-loop-name
invariant-loop-name l = draft_notes l.self ≡ settled_among (take l.name-index l.names) (draft_notes l.fn.self)
