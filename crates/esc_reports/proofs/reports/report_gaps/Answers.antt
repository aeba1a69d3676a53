use Rattle.std.proofs.Common.{rules}
use Rattle.std.proofs.lemmas.Result.{IfOk-weaker}
use Rattle.esc_store.specs.ResultLaws.{on_any}
use Rattle.esc_reports.proofs.GapsFacts.{gaps_of}
use Rattle.esc_reports.proofs.reports.report_gaps.Goals as goal

pub returns-clause-text : goal.returns-clause-text
returns-clause-text g c = λ clean e serves.
    let before = g.met.R.Reads.was_honest _ _ c.in_ok-rows.ensures.read.follows clean in
    let then = c.in_ok-moment.ensures.read.reflects e serves in
    let there = c.in_ok-rows.ensures.read.reflects e then in
    IfOk-weaker c.gaps_report.result _ _ (λ text is. λ apart. record {
      rows = c.in_ok-rows.rows.items;
      are_held = c.in_ok-rows.ensures.rows clean e then apart;
      report = gaps_of (c.manifest.ensures.manifest e there)
          c.deref.ensures.value (c.in_ok-moment.ensures.moment before e serves) is;
    }) c.gaps_report.ensures.text

pub returns-in_err-rows-clause-read : goal.returns-in_err-rows-clause-read
returns-in_err-rows-clause-read g c = record {
  follows = g.met.R.Reads.goes_on _ _
      _ c.in_ok-moment.ensures.read.follows c.in_err-rows.ensures.read.follows;
  reflects = search rules;
}

pub returns-clause-read : goal.returns-clause-read
returns-clause-read g c = record {
  follows = g.met.R.Reads.goes_on _ _ _ c.in_ok-moment.ensures.read.follows c.in_ok-rows.ensures.read.follows;
  reflects = on_any c.gaps_report.result
      (λ e h. c.in_ok-rows.ensures.read.reflects e (c.in_ok-moment.ensures.read.reflects e h));
}
