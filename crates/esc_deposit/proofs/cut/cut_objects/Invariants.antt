use Rattle.std.proofs.Common.{◌≡◌, ◌++◌, List}
use Rattle.esc_apply.specs.ObjectStreams.{Entry}
use Rattle.esc_deposit.specs.CutSoFar.{IsCutSoFar}
use Rattle.esc_deposit.proofs.cut.cut_objects.Given as goal

-- the objects so far are cut, and others are left
abbrev pub invariant-loop-object : goal.invariant-loop-object
invariant-loop-object g l =
    let objects = g.O.Objects in
    record {
      follows : objects.follows l.fn.objects l.objects;
      cut : objects.is_honest l.objects → (es : List Entry) → objects.lists l.fn.objects es
          → (done left : List Entry) × objects.lists l.objects left × (es ≡ done ++ left)
          × IsCutSoFar done l.cut.lengths.items l.cut.length l.cut.size;
    }

abbrev pub decreases-loop-object : goal.decreases-loop-object
decreases-loop-object g l = g.O.Objects.bound l.objects
