use Rattle.esc_inspection.proofs.inspection.acceptance.Goals as goal

pub returns-clause-answer : goal.returns-clause-answer
returns-clause-answer g c = λ clean e serves. record {
  facts = c.in_ok-facts.facts;
  seen = c.in_ok-facts.ensures.facts clean e serves;
  at_clock = c.in_ok-facts.ensures.at_clock;
  shown = c.in_ok-answer_of.ensures.shown;
}
