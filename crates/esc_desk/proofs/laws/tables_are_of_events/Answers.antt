use Rattle.esc_desk.proofs.SameHeld.{tables_are_of}
use Rattle.esc_desk.proofs.laws.tables_are_of_events.Goals as goal

pub returns : goal.returns
returns c = tables_are_of
