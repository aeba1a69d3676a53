use Rattle.std.proofs.Common.{◌≡◌, ◌++◌, List}
use Rattle.esc_apply.specs.ObjectStreams.{Entry}
use Rattle.esc_deposit.proofs.run.take_run.Given as goal

-- the objects so far, and those that are left
abbrev pub invariant-loop : goal.invariant-loop
invariant-loop g l =
    let objects = g.O.Objects in
    record {
      follows : objects.follows l.fn.objects l.objects;
      run : objects.is_honest l.objects → (es : List Entry) → objects.lists l.fn.objects es
          → (left : List Entry) × objects.lists l.objects left × (es ≡ l.run.items ++ left);
    }
