use Rattle.std.proofs.Common.{rules, ◌∙◌}
use Rattle.esc_inspection.proofs.ComparedParts.{front_none, front_more, front_all}
use Rattle.esc_inspection.proofs.rebuilt.compare_contents.Goals as goal

pub loop-key-init : goal.loop-key-init
loop-key-init g c = record {
  follows = g.met.R.Reads.stays _;
  reflects = λ e h. h;
  marks = λ honest e h apart es are order keys.
      front_none es c.args.contents.now.entries c.into_iter-key-iterator.result c.args.comparison.now
      (c.into_iter-key-iterator.ensures.into_iter_gives ∙ c.iter-key-items.ensures.rest);
}

pub loop-key-preserved : goal.loop-key-preserved
loop-key-preserved g c =
    let reads = g.met.R.Reads in
    let now = c.loop-key.invariant in
    let read = c.in_ok-found.ensures.read in
    record {
      follows = reads.goes_on _ _ _ now.follows read.follows;
      reflects = λ e h. read.reflects e (now.reflects e h);
      marks = λ honest e h apart es are order keys.
          front_more es c.args.contents.now.entries c.loop-key.key-iterator c.next.new.self
          c.in-Some.key.now c.in-Some.object.now c.args.comparison.now c.loop-key.comparison c.mention.new.self
          c.iter-key-items.ensures.ordered c.in-Some.ensures.steps
          (c.in_ok-mention.ensures es order
          (c.in_ok-found.ensures.found honest e (now.reflects e h) apart es are order keys))
          (now.marks (reads.was_honest _ _ read.follows honest) e h apart es are order keys);
    }

pub returns-clause-compared : goal.returns-clause-compared
returns-clause-compared g c = λ honest e h apart es are order keys.
    front_all es c.args.contents.now.entries c.loop-key.key-iterator c.args.comparison.now c.loop-key.comparison
    c.in-None.ensures.steps.0
    (c.loop-key.invariant.marks honest e h apart es are order keys)

pub returns-in_err-mention-clause-read : goal.returns-in_err-mention-clause-read
returns-in_err-mention-clause-read g c = record {
  follows = g.met.R.Reads.goes_on _ _ _ c.loop-key.invariant.follows c.in_ok-found.ensures.read.follows;
  reflects = search rules;
}
