use Rattle.std.proofs.Common.{rules, ap, ◌∙◌}
use Rattle.esc_reports.specs.LinksText.{links_text}
use Rattle.esc_reports.proofs.reports.report_links.Goals as goal

pub returns-clause-text : goal.returns-clause-text
returns-clause-text g c = λ clean e serves apart.
    let before = g.met.R.Reads.was_honest _ _ c.in_ok-findings.ensures.read.follows clean in
    let there = c.in_ok-end.ensures.read.reflects e serves in
    let findings = c.in_ok-findings.ensures.findings clean e there apart in
    record {
      entries = findings.0;
      tables = findings.1;
      end = c.in_ok-end.end;
      ends = c.in_ok-end.ensures.end before e serves apart;
      findings = c.in_ok-findings.findings.items;
      are_found = findings.2;
      is = c.in_ok-links_text.ensures.text ∙ ap links_text c.deref.ensures.value;
    }

pub returns-in_err-findings-clause-read : goal.returns-in_err-findings-clause-read
returns-in_err-findings-clause-read g c = record {
  follows = g.met.R.Reads.goes_on _ _
      _ c.in_ok-end.ensures.read.follows c.in_err-findings.ensures.read.follows;
  reflects = search rules;
}

pub returns-in_err-links_text-clause-read : goal.returns-in_err-links_text-clause-read
returns-in_err-links_text-clause-read g c = record {
  follows = g.met.R.Reads.goes_on _ _
      _ c.in_ok-end.ensures.read.follows c.in_ok-findings.ensures.read.follows;
  reflects = search rules;
}

pub returns-clause-read : goal.returns-clause-read
returns-clause-read g c = record {
  follows = g.met.R.Reads.goes_on _ _ _ c.in_ok-end.ensures.read.follows c.in_ok-findings.ensures.read.follows;
  reflects = λ e h. c.in_ok-findings.ensures.read.reflects e (c.in_ok-end.ensures.read.reflects e h);
}
