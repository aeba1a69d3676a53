use Rattle.esc_csv.specs.Lines.{text_of}
use Rattle.esc_table_files.specs.Layouts.{entry_lines}
use Rattle.esc_table_files.specs.Writing.{HasGrown, heading_csv}
use Rattle.esc_table_files.proofs.Zipped.{SoFar}
use Rattle.esc_table_files.proofs.table_writer.write_object.Given as goal

-- those so far have grown, and those that are left are as they were
abbrev pub invariant-loop-writer : goal.invariant-loop-writer
invariant-loop-writer g l = SoFar (HasGrown (λ w. w.layout.now) (λ w. g.W.Write.contents w.output)
    (λ t. text_of (entry_lines t (l.key, l.object)))) l.fn.writers.items l.writer-index l.writer-items
