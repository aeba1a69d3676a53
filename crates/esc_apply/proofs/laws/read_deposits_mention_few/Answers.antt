use Rattle.std.proofs.Common.{arith}
use Rattle.esc_apply.proofs.Few.{few_mentions}
use Rattle.esc_apply.proofs.laws.read_deposits_mention_few.Goals as goal

pub returns : goal.returns
returns c = λ body d read. omega (arith, few_mentions d, c.read_deposits_are_small.ensures body d read)
