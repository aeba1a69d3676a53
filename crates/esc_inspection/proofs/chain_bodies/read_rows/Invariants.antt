use Rattle.std.proofs.Common.{◌≡◌, ◌-◌, List, map, drop, length}
use Rattle.std.specs.Map.{keys_of}
use Rattle.esc_events.specs.Apart.{WhereApart}
use Rattle.esc_events.specs.Events.{EventValue}
use Rattle.esc_acceptance.specs.Chains.{AreFactsOf}
use Rattle.esc_desk.specs.Lookups.{ForTables}
use Rattle.esc_inspection.specs.Compared.{AreComparedWithBodies}
use Rattle.esc_inspection.specs.Parts.{body_at}
use Rattle.esc_inspection.proofs.chain_bodies.read_rows.Given as goal

-- the last bodies are read
abbrev pub invariant-loop-count : goal.invariant-loop-count
invariant-loop-count g l =
    let reads = g.R.Reads in
    record {
      follows : reads.follows l.fn.reader l.reader;
      reflects : (e : List EventValue) → reads.reflects l.fn.reader e → reads.reflects l.reader e;
      facts : reads.is_honest l.reader → (e : List EventValue) → reads.reflects l.fn.reader e
          → WhereApart e (AreFactsOf (map (body_at e) (drop (length l.rows - l.count) l.rows)) l.bodies.facts);
      compared : reads.is_honest l.reader → (e : List EventValue) → reads.reflects l.fn.reader e
          → ForTables e (λ es. l.index ≡ keys_of es
          → AreComparedWithBodies (map (body_at e) (drop (length l.rows - l.count) l.rows)) es l.bodies.comparison);
    }
