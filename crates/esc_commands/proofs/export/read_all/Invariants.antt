use Rattle.std.proofs.Common.{List}
use Rattle.esc_apply.specs.ObjectStreams.{Entry}
use Rattle.esc_commands.proofs.export.read_all.Given as goal

-- some of the objects are left
abbrev pub invariant-loop : goal.invariant-loop
invariant-loop g l =
    let objects = g.O.Objects in
    record {
      follows : objects.follows l.fn.objects l.objects;
      left : objects.is_honest l.objects → (es : List Entry) → objects.lists l.fn.objects es
          → (left : List Entry) × objects.lists l.objects left;
    }

abbrev pub decreases-loop : goal.decreases-loop
decreases-loop g l = g.O.Objects.bound l.objects
