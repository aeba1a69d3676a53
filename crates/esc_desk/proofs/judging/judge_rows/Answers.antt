use Rattle.std.proofs.Common.{arith}
use Rattle.esc_store.specs.StandingLaws.{was_honest, as_before_then}
use Rattle.esc_desk.proofs.JudgedRows.{judged_more, judged_all}
use Rattle.esc_desk.proofs.judging.judge_rows.Goals as goal

pub loop-row-preserved : goal.loop-row-preserved
loop-row-preserved g c =
    let now = c.loop-row.invariant in
    let row = c.loop-row.row in
    let took = c.in_ok-take.ensures in
    record {
      same = as_before_then now.same c.judge.ensures.same;
      judged = λ clean k stood.
          let judged = c.in_ok-judgement.ensures.judged clean k (now.same.stands k stood) in
          judged_more c.args.rows.now k.parked c.args.from row
          c.loop-row-test.true c.in_ok-judgement.judgement judged c.loop-row.judged c.take.new.self
          took.adopted took.dropped (now.judged (was_honest c.judge.ensures.same clean) k stood);
    }

pub returns-clause-judged : goal.returns-clause-judged
returns-clause-judged g c = λ clean k stood.
    judged_all c.args.rows.now k.parked c.args.from c.loop-row.row c.loop-row.judged (omega arith)
    (c.loop-row.invariant.judged clean k stood)
