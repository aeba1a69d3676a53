use Rattle.std.proofs.Common.{◌≡◌, ◌++◌, List}
use Rattle.esc_apply.specs.ObjectStreams.{Entry}
use Rattle.esc_zone.specs.Noted.{draft_notes, with_originals}
use Rattle.esc_zone.proofs.draft.Draft.take_mirrors.Given as goal

-- the objects so far are taken in, and others are left
abbrev pub invariant-loop-key : goal.invariant-loop-key
invariant-loop-key g l =
    let objects = g.O.Objects in
    objects.is_honest l.objects → (es : List Entry) → objects.lists l.fn.objects es
    → (done left : List Entry) × objects.lists l.objects left × (es ≡ done ++ left)
    × (draft_notes l.self ≡ with_originals done (draft_notes l.fn.self))

abbrev pub decreases-loop-key : goal.decreases-loop-key
decreases-loop-key g l = g.O.Objects.bound l.objects
