use Rattle.std.proofs.Common.{ℕ, List, [], take, map, ap, subst, sym, string_bytes}
use Rattle.std.proofs.lemmas.List.{take_more, take_all}
use Rattle.esc_inspection.specs.Parts.{AreSpoiledAmong, AreTldsOf}
use Rattle.esc_inspection.proofs.Spoiled.{no_rows}
use Rattle.esc_inspection.proofs.bodies.read_bodies.Goals as goal

pub loop-count-init : goal.loop-count-init
loop-count-init g c = record {
  follows = g.met.R.Reads.stays _;
  reflects = λ e h. h;
  spoiled = λ honest e h apart. subst (AreSpoiledAmong e []) (sym c.new-bodies.ensures.spoiled) (no_rows e);
  tlds = λ honest e h apart. ap (map string_bytes) c.new-bodies.ensures.tlds;
}

pub loop-count-preserved : goal.loop-count-preserved
loop-count-preserved g c =
    let reads = g.met.R.Reads in
    let now = c.loop-count.invariant in
    let read = c.in_ok-read_held.ensures.read in
    record {
      follows = reads.goes_on _ _ _ now.follows read.follows;
      reflects = λ e h. read.reflects e (now.reflects e h);
      spoiled = λ honest e h apart.
          subst (λ (rows : List ℕ). AreSpoiledAmong e rows c.read_held.new.bodies.spoiled.items)
          (sym (take_more c.args.held.now c.loop-count.count 0 c.loop-count-test.true))
          (c.in_ok-read_held.ensures.spoiled honest e (now.reflects e h) apart
          (take c.loop-count.count c.args.held.now)
          (now.spoiled (reads.was_honest _ _ read.follows honest) e h apart));
      tlds = λ honest e h apart.
          subst (λ (rows : List ℕ). AreTldsOf e rows c.read_held.new.bodies.tlds)
          (sym (take_more c.args.held.now c.loop-count.count 0 c.loop-count-test.true))
          (c.in_ok-read_held.ensures.tlds honest e (now.reflects e h) apart
          (take c.loop-count.count c.args.held.now)
          (now.tlds (reads.was_honest _ _ read.follows honest) e h apart));
    }

pub returns-clause-tlds : goal.returns-clause-tlds
returns-clause-tlds g c = λ honest e h apart.
    subst (λ (rows : List ℕ). AreTldsOf e rows c.loop-count.bodies.tlds)
    (take_all c.loop-count.count c.args.held.now c.loop-count-test.false)
    (c.loop-count.invariant.tlds honest e h apart)

pub returns-clause-spoiled : goal.returns-clause-spoiled
returns-clause-spoiled g c = λ honest e h apart.
    subst (λ (rows : List ℕ). AreSpoiledAmong e rows c.loop-count.bodies.spoiled.items)
    (take_all c.loop-count.count c.args.held.now c.loop-count-test.false)
    (c.loop-count.invariant.spoiled honest e h apart)
