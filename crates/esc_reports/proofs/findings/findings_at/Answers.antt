use Rattle.esc_reports.proofs.Listed.{listing}
use Rattle.esc_reports.proofs.findings.findings_at.Goals as goal

pub returns-in-Some-clause-findings : goal.returns-in-Some-clause-findings
returns-in-Some-clause-findings g c = rw c.in-Some.is c.findings.ensures.findings

pub returns-in-None-clause-findings : goal.returns-in-None-clause-findings
returns-in-None-clause-findings g c = λ clean e serves. rw c.in-None.is (λ apart.
    let state = g.met.R.Reads.stands_for _ e serves in
    let entries = listing e state.kept
    c.tables_are_listed.ensures c.tables_are_of_events.ensures state.stands_for apart in
    (entries.0, entries.1, c.new.ensures.items))
