use Rattle.std.proofs.Common.{refl, arith}
use Rattle.esc_desk.proofs.PlanLemmas.{one_more_same_row}
use Rattle.esc_desk.proofs.moves.same_rows.Goals as goal

pub loop-at-init : goal.loop-at-init
loop-at-init c = record { in_new = omega arith; same = refl }

pub loop-at-preserved : goal.loop-at-preserved
loop-at-preserved c = record {
  in_new = let past = c.if-at-new.false in omega arith;
  same = one_more_same_row c.args.old.now c.args.new.now c.loop-at.at _ _ c.loop-at-test.true
      (let past = c.if-at-new.false in omega arith) c.if-old-at.false c.loop-at.invariant.same;
}
