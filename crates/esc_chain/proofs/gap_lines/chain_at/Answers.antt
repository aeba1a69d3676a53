use Rattle.esc_chain.proofs.gap_lines.chain_at.Goals as goal

pub chain_of-requires : goal.chain_of-requires
chain_of-requires c = (c.args.held.now, c.requires.in_range, c.requires.walk)

pub returns-in-None : goal.returns-in-None
returns-in-None c = rw c.in-None.is (c.chain_of.ensures c.args.held.now c.requires.in_range c.requires.walk)
