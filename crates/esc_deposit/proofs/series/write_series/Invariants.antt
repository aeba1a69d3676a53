use Rattle.std.proofs.Common.{◌≡◌, List}
use Rattle.esc_apply.specs.ObjectStreams.{Entry}
use Rattle.esc_deposit.proofs.Written.{IsSoFar}
use Rattle.esc_deposit.proofs.series.write_series.Given as goal

-- the parts so far, and the objects that are left
abbrev pub invariant-loop-length : goal.invariant-loop-length
invariant-loop-length g l =
    let objects = g.O.Objects in
    let bundles = g.B.Bundles in
    record {
      count : l.number ≡ l.length-index;
      follows : objects.follows l.fn.objects l.objects;
      written : objects.is_honest l.objects → (es : List Entry) → objects.lists l.fn.objects es
          → (left : List Entry) × objects.lists l.objects left
          × IsSoFar bundles.takes l.series.id.now l.series.watermark l.series.length l.number
          l.counts l.fn.bundles l.bundles es left;
    }
