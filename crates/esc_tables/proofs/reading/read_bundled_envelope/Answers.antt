use Rattle.esc_tables.proofs.EnvelopeFacts.{heads_deposit}
use Rattle.esc_tables.proofs.reading.read_bundled_envelope.Goals as goal

pub returns-clause-deposit : goal.returns-clause-deposit
returns-clause-deposit c = heads_deposit c.args.body.now
    c.first_envelope.result c.first_envelope.ensures.read c.first_envelope.ensures.refused
