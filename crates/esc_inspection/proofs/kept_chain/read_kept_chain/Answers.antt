use Rattle.esc_inspection.proofs.ChainRows.{chain_rows}
use Rattle.esc_inspection.proofs.kept_chain.read_kept_chain.Goals as goal

pub returns-in-Some-clause-rows : goal.returns-in-Some-clause-rows
returns-in-Some-clause-rows g c = λ honest e h apart.
    chain_rows e c.in_ok-steps.steps.items c.deref.result.now c.in_ok-rows.rows.items c.deref.ensures.value
    c.in_ok-rows.ensures (c.in_ok-steps.ensures.steps honest e h apart)
