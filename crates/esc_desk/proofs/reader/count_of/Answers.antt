use Rattle.esc_desk.proofs.reader.count_of.Goals as goal

pub returns-clause-count : goal.returns-clause-count
returns-clause-count g c = λ honest k stands es all.
    c.count_in.ensures.count k.registry.content (c.in_ok-counts.ensures.counts honest k stands) es all
