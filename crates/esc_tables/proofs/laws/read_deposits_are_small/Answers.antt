use Rattle.esc_tables.proofs.SizeFacts.{few_mentions}
use Rattle.esc_tables.proofs.laws.read_deposits_are_small.Goals as goal

pub returns : goal.returns
returns c = few_mentions
