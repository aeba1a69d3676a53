use Rattle.std.proofs.Common.{◌≡◌, List}
use Rattle.std.specs.Map.{keys_of}
use Rattle.esc_events.specs.Events.{EventValue}
use Rattle.esc_desk.specs.Lookups.{ForTables}
use Rattle.esc_inspection.proofs.ComparedParts.{MarksFront}
use Rattle.esc_inspection.proofs.rebuilt.compare_contents.Given as goal

-- the contents so far are compared
abbrev pub invariant-loop-key : goal.invariant-loop-key
invariant-loop-key g l =
    let reads = g.R.Reads in
    record {
      follows : reads.follows l.fn.reader l.reader;
      reflects : (e : List EventValue) → reads.reflects l.fn.reader e → reads.reflects l.reader e;
      marks : reads.is_honest l.reader → (e : List EventValue) → reads.reflects l.fn.reader e
          → ForTables e (λ es. l.index ≡ keys_of es
          → MarksFront es l.contents.entries l.key-iterator l.fn.comparison l.comparison);
    }
