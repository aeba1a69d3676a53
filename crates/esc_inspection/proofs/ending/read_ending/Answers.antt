use Rattle.esc_inspection.proofs.ending.read_ending.Goals as goal

pub returns-clause-ending : goal.returns-clause-ending
returns-clause-ending g c = λ clean e serves apart. record {
  ends = c.in_ok-end.ensures.end clean e serves apart;
  counts_are = c.in_ok-counts.ensures;
}
