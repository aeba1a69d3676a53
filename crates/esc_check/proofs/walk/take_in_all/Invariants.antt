use Rattle.std.proofs.Common.{List}
use Rattle.esc_apply.specs.ObjectStreams.{Entry}
use Rattle.esc_check.specs.Verifying.{IsVerifying}
use Rattle.esc_check.proofs.walk.take_in_all.Given as goal

-- the objects that are left are still to come
abbrev pub invariant-loop-verification : goal.invariant-loop-verification
invariant-loop-verification g l =
    let objects = g.O.Objects in
    record {
      follows : objects.follows l.fn.objects l.objects;
      taken : objects.is_honest l.objects → (es : List Entry) → objects.lists l.fn.objects es
          → (left : List Entry) × objects.lists l.objects left
          × IsVerifying l.watermark l.verification left es;
    }

abbrev pub decreases-loop-verification : goal.decreases-loop-verification
decreases-loop-verification g l = g.O.Objects.bound l.objects
