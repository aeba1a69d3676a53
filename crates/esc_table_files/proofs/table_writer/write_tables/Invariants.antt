use Rattle.std.proofs.Common.{List}
use Rattle.std.specs.List.{AllZip}
use Rattle.esc_apply.specs.ObjectStreams.{Entry}
use Rattle.esc_table_files.proofs.Written.{Begun}
use Rattle.esc_table_files.proofs.table_writer.write_tables.Given as goal

-- what is written of each table, with the lines of the objects that are left, is its text
abbrev pub invariant-loop-key : goal.invariant-loop-key
invariant-loop-key g l =
    let objects = g.O.Objects in
    record {
      follows : objects.follows l.fn.objects l.objects;
      written : objects.is_honest l.objects → (es : List Entry) → objects.lists l.fn.objects es
          → (left : List Entry) × objects.lists l.objects left
          × AllZip (Begun (λ w. w.layout.now) (λ w. g.W.Write.contents w.output) es left)
          l.fn.writers.items l.writers.items;
    }

abbrev pub decreases-loop-key : goal.decreases-loop-key
decreases-loop-key g l = g.O.Objects.bound l.objects
