use Rattle.std.proofs.Common.{rules}
use Rattle.esc_inspection.proofs.Listed.{listing}
use Rattle.esc_inspection.proofs.Reading.{read_made, read_then}
use Rattle.esc_inspection.proofs.surveying.read_contents.Goals as goal

pub returns-clause-contents : goal.returns-clause-contents
returns-clause-contents g c = λ clean e serves apart.
    let laws = g.met.R.Reads in
    let state = laws.stands_for _ e serves in
    let entries = listing e state.kept
    c.tables_are_listed.ensures c.tables_are_of_events.ensures state.stands_for apart in
    let before = laws.was_honest _ _ c.in_ok-flaws.ensures.read.follows clean in
    let there = c.in_ok-survey.ensures.read.reflects e serves in
    let surveyed = c.in_ok-survey.ensures.all before e serves apart entries.0 entries.1 entries.2 in
    record {
      entries = entries.0;
      tables = entries.1;
      are_found = surveyed.2;
      are_lacking = c.in_ok-lacking.ensures entries.0 surveyed.1;
      flawed = c.in_ok-flaws.ensures.each clean e there apart entries.0 entries.1 entries.2 surveyed.0;
    }

pub returns-in_err-flaws-clause-read : goal.returns-in_err-flaws-clause-read
returns-in_err-flaws-clause-read g c = record {
  follows = g.met.R.Reads.goes_on _ _ _ c.in_ok-survey.ensures.read.follows c.in_err-flaws.ensures.read.follows;
  reflects = search rules;
}

pub returns-clause-read : goal.returns-clause-read
returns-clause-read g c =
    read_made (read_then g.met.R.Reads.goes_on c.in_ok-survey.ensures.read c.in_ok-flaws.ensures.read)
