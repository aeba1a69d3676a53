use Rattle.esc_desk.proofs.reader.held_of.Goals as goal

pub returns-clause-rows : goal.returns-clause-rows
returns-clause-rows g c = λ honest k stands has. c.held.ensures.rows
    honest k (c.in_ok-receipts.ensures.same.stands k stands) has
