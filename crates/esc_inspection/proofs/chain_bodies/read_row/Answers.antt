use Rattle.std.proofs.Common.{◌∙◌, ap, sym, option_to_list}
use Rattle.std.proofs.lemmas.Result.{IfOk-weaker}
use Rattle.esc_inspection.proofs.ComparedBodies.{body_before}
use Rattle.esc_inspection.proofs.Reading.{read_then}
use Rattle.esc_inspection.specs.Parts.{body_at}
use Rattle.esc_inspection.proofs.chain_bodies.read_row.Goals as goal

pub returns-in-Some-clause-read : goal.returns-in-Some-clause-read
returns-in-Some-clause-read g c =
    read_then g.met.R.Reads.goes_on c.in_ok-deposit.ensures.read c.compare_deposit.ensures.read

pub returns-in-Some-clause-facts : goal.returns-in-Some-clause-facts
returns-in-Some-clause-facts g c = λ honest e h.
    let read = c.in_ok-deposit.ensures in
    let then = c.compare_deposit.ensures in
    let before = g.met.R.Reads.was_honest _ _ then.read.follows honest in
    IfOk-weaker c.compare_deposit.result _ _ (λ done compared apart. read.facts before e h apart)
    (then.compared honest e (read.read.reflects e h))

pub returns-in-Some-clause-compared : goal.returns-in-Some-clause-compared
returns-in-Some-clause-compared g c = λ honest e h.
    let read = c.in_ok-deposit.ensures in
    let then = c.compare_deposit.ensures in
    let before = g.met.R.Reads.was_honest _ _ then.read.follows honest in
    IfOk-weaker c.compare_deposit.result _ _
    (λ done compared apart es are order keys later had.
    body_before es (body_at e c.args.row) later c.in-Some.deposit
    c.args.bodies.now.comparison c.compare_deposit.new.comparison c.if-bodies.true
    (ap option_to_list (sym c.in-Some.is) ∙ read.deposit before e h apart)
    (compared apart es are order keys) had)
    (then.compared honest e (read.read.reflects e h))
