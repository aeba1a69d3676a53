use Rattle.std.proofs.Common.{List, take}
use Rattle.esc_events.specs.Apart.{WhereApart}
use Rattle.esc_events.specs.Events.{EventValue}
use Rattle.esc_inspection.specs.Parts.{AreSpoiledAmong, AreTldsOf}
use Rattle.esc_inspection.proofs.bodies.read_bodies.Given as goal

-- the bodies of the rows so far were read
abbrev pub invariant-loop-count : goal.invariant-loop-count
invariant-loop-count g l =
    let reads = g.R.Reads in
    record {
      follows : reads.follows l.fn.reader l.reader;
      reflects : (e : List EventValue) → reads.reflects l.fn.reader e → reads.reflects l.reader e;
      spoiled : reads.is_honest l.reader → (e : List EventValue) → reads.reflects l.fn.reader e
          → WhereApart e (AreSpoiledAmong e (take l.count l.held) l.bodies.spoiled.items);
      tlds : reads.is_honest l.reader → (e : List EventValue) → reads.reflects l.fn.reader e
          → WhereApart e (AreTldsOf e (take l.count l.held) l.bodies.tlds);
    }
