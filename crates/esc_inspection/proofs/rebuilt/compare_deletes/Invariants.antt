use Rattle.std.proofs.Common.{◌≡◌, List, None, take}
use Rattle.std.specs.Map.{keys_of}
use Rattle.esc_events.specs.Events.{EventValue}
use Rattle.esc_desk.specs.Lookups.{ForTables}
use Rattle.esc_inspection.specs.Compared.{Marks}
use Rattle.esc_inspection.proofs.rebuilt.compare_deletes.Given as goal

-- the deletes so far are compared
abbrev pub invariant-loop-key : goal.invariant-loop-key
invariant-loop-key g l =
    let reads = g.R.Reads in
    record {
      follows : reads.follows l.fn.reader l.reader;
      reflects : (e : List EventValue) → reads.reflects l.fn.reader e → reads.reflects l.reader e;
      marks : reads.is_honest l.reader → (e : List EventValue) → reads.reflects l.fn.reader e
          → ForTables e (λ es. l.index ≡ keys_of es → Marks es (take l.key-index l.deletes) (λ _. None)
          l.fn.comparison l.comparison);
    }
