use Rattle.std.proofs.Common.{rules, List, None, subst}
use Rattle.std.proofs.lemmas.List.{take_all}
use Rattle.esc_tables.specs.KeyName.{KeyName}
use Rattle.esc_inspection.specs.Compared.{Marks}
use Rattle.esc_inspection.proofs.Marking.{marks_none}
use Rattle.esc_inspection.proofs.ComparedParts.{one_delete_more}
use Rattle.esc_inspection.proofs.rebuilt.compare_deletes.Goals as goal

pub loop-key-init : goal.loop-key-init
loop-key-init g c = record {
  follows = g.met.R.Reads.stays _;
  reflects = λ e h. h;
  marks = λ honest e h apart es are order keys. marks_none es (λ _. None) c.args.comparison.now;
}

pub loop-key-preserved : goal.loop-key-preserved
loop-key-preserved g c =
    let reads = g.met.R.Reads in
    let now = c.loop-key.invariant in
    let read = c.in_ok-found.ensures.read in
    record {
      follows = reads.goes_on _ _ _ now.follows read.follows;
      reflects = λ e h. read.reflects e (now.reflects e h);
      marks = λ honest e h apart es are order keys.
          one_delete_more es c.args.deletes.now c.loop-key.key-index c.key-item.result
          c.args.comparison.now c.loop-key.comparison c.mention.new.self c.loop-key-test.true c.key-item.is
          (c.in_ok-mention.ensures es order
          (c.in_ok-found.ensures.found honest e (now.reflects e h) apart es are order keys))
          (now.marks (reads.was_honest _ _ read.follows honest) e h apart es are order keys);
    }

pub returns-clause-compared : goal.returns-clause-compared
returns-clause-compared g c = λ honest e h apart es are order keys.
    subst (λ (ks : List KeyName). Marks es ks (λ _. None) c.args.comparison.now c.loop-key.comparison)
    (take_all c.loop-key.key-index c.args.deletes.now c.loop-key-test.false)
    (c.loop-key.invariant.marks honest e h apart es are order keys)

pub returns-in_err-mention-clause-read : goal.returns-in_err-mention-clause-read
returns-in_err-mention-clause-read g c = record {
  follows = g.met.R.Reads.goes_on _ _ _ c.loop-key.invariant.follows c.in_ok-found.ensures.read.follows;
  reflects = search rules;
}
