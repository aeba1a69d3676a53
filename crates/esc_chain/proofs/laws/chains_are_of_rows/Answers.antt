use Rattle.esc_chain.proofs.Reordered.{chains_are_of}
use Rattle.esc_chain.proofs.laws.chains_are_of_rows.Goals as goal

pub returns : goal.returns
returns c = chains_are_of
