use Rattle.std.proofs.Common.{◌≡◌, ◌-◌, ◌∙◌, ap, sym, List, Option, ℕ, map, drop, length}
use Rattle.std.proofs.lemmas.Map.Entries.{length-keys_of}
use Rattle.esc_tables.specs.KeyName.{KeyName}
use Rattle.esc_acceptance.specs.Chains.{AreFactsOf}
use Rattle.esc_inspection.specs.Compared.{AreComparedWithBodies}
use Rattle.esc_inspection.specs.Parts.{body_at}
use Rattle.esc_inspection.proofs.ComparedBodies.{no_bodies, no_row, row_before, all_rows}
use Rattle.esc_inspection.proofs.chain_bodies.read_rows.Goals as goal

pub loop-count-init : goal.loop-count-init
loop-count-init g c = record {
  follows = g.met.R.Reads.stays _;
  reflects = λ e h. h;
  facts = λ honest e h apart. no_row (λ (bodies : List (Option (List ℕ))). AreFactsOf bodies c.new-facts.result)
      c.args.rows.now (body_at e) c.new-facts.ensures;
  compared = λ honest e h apart es are order keys.
      let new = c.in_ok-comparison.comparison in
      no_row (λ (bodies : List (Option (List ℕ))). AreComparedWithBodies bodies es new) c.args.rows.now (body_at e)
      (no_bodies es new (c.in_ok-comparison.ensures es
      (sym (c.count.ensures ∙ ap (λ (ks : List KeyName). length ks) keys ∙ length-keys_of es))));
}

pub loop-count-preserved : goal.loop-count-preserved
loop-count-preserved g c =
    let reads = g.met.R.Reads in
    let now = c.loop-count.invariant in
    let made = c.in_ok-read_row.ensures in
    let rows = c.args.rows.now in
    let count = c.loop-count.count in
    let was = reads.was_honest _ _ made.read.follows in
    record {
      follows = reads.goes_on _ _ _ now.follows made.read.follows;
      reflects = λ e h. made.read.reflects e (now.reflects e h);
      facts = λ honest e h apart.
          row_before (λ (bodies : List (Option (List ℕ))). AreFactsOf bodies c.read_row.new.bodies.facts)
          rows (body_at e) count 0 c.loop-count-test.true
          (made.facts honest e (now.reflects e h) apart (map (body_at e) (drop (length rows - count) rows))
          (now.facts (was honest) e h apart));
      compared = λ honest e h apart es are order keys.
          let new = c.read_row.new.bodies.comparison in
          row_before (λ (bodies : List (Option (List ℕ))). AreComparedWithBodies bodies es new)
          rows (body_at e) count 0 c.loop-count-test.true
          (made.compared honest e (now.reflects e h) apart es are order keys
          (map (body_at e) (drop (length rows - count) rows))
          (now.compared (was honest) e h apart es are order keys));
    }

pub returns-clause-facts : goal.returns-clause-facts
returns-clause-facts g c = λ honest e h apart.
    all_rows (λ (bodies : List (Option (List ℕ))). AreFactsOf bodies c.loop-count.bodies.facts) c.args.rows.now
    (body_at e) c.loop-count.count c.loop-count-test.false (c.loop-count.invariant.facts honest e h apart)

pub returns-clause-compared : goal.returns-clause-compared
returns-clause-compared g c = λ honest e h apart es are order keys.
    all_rows (λ (bodies : List (Option (List ℕ))). AreComparedWithBodies bodies es c.loop-count.bodies.comparison)
    c.args.rows.now (body_at e) c.loop-count.count c.loop-count-test.false
    (c.loop-count.invariant.compared honest e h apart es are order keys)
