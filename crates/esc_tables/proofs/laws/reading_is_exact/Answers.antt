use Rattle.esc_tables.proofs.ExactFacts.{reading_exact, refusal_exact}
use Rattle.esc_tables.proofs.laws.reading_is_exact.Goals as goal

pub returns-clause-deposit : goal.returns-clause-deposit
returns-clause-deposit c = reading_exact c.frame_is_exact.ensures.bundle

pub returns-clause-refusal : goal.returns-clause-refusal
returns-clause-refusal c = refusal_exact c.frame_is_exact.ensures.bundle c.frame_is_exact.ensures.fault
