use Rattle.std.proofs.Common.{map}
use Rattle.esc_tables.specs.Reading.{reading}
use Rattle.esc_events.specs.LatestTables.{AreEntries, tables_of_chain}
use Rattle.esc_events.specs.StateAfter.{deposits_of}
use Rattle.esc_inspection.specs.Parts.{body_at}
use Rattle.esc_inspection.proofs.ComparedBodies.{other_order}
use Rattle.esc_inspection.proofs.Reading.{read_made, read_then}
use Rattle.esc_inspection.proofs.chain_bodies.read_chain.Goals as goal

pub returns-clause-read : goal.returns-clause-read
returns-clause-read g c =
    read_made (read_then g.met.R.Reads.goes_on c.in_ok-index.ensures.read c.in_ok-facts.ensures.read)

pub returns-clause-facts : goal.returns-clause-facts
returns-clause-facts g c = λ honest e h.
    c.in_ok-facts.ensures.facts honest e (c.in_ok-index.ensures.read.reflects e h)

pub returns-clause-rebuilt : goal.returns-clause-rebuilt
returns-clause-rebuilt g c = λ honest e h apart is es are.
    let made = c.in_ok-facts.ensures in
    let index = c.in_ok-index.ensures in
    let before = g.met.R.Reads.was_honest _ _ made.read.follows honest in
    let listed = c.tables_are_listed.ensures (deposits_of reading (body_at e) are.chain) in
    let tables : AreEntries e listed.0 = record { chain = are.chain; latest = are.latest; objects = listed.2 } in
    other_order es listed.0 (map (body_at e) c.args.rows.now) (tables_of_chain e are.chain)
    are.objects.each listed.2.each
    (c.is_complete.ensures is (map (body_at e) c.args.rows.now) listed.0
    (made.compared honest e (index.read.reflects e h) apart listed.0 tables listed.1
    (index.keys before e h apart listed.0 tables listed.1)))
