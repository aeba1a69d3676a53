use Rattle.std.proofs.Common.{ap}
use Rattle.std.proofs.lemmas.Result.{IfOk-weaker}
use Rattle.esc_tables.specs.DepositValue.{DepositValue}
use Rattle.esc_inspection.proofs.ComparedParts.{contents_then_deletes}
use Rattle.esc_inspection.proofs.Reading.{read_then}
use Rattle.esc_inspection.proofs.rebuilt.compare_deposit.Goals as goal

pub returns-clause-compared : goal.returns-clause-compared
returns-clause-compared g c = λ honest e h.
    let reads = g.met.R.Reads in
    let first = c.in_ok-compare_contents.ensures in
    let then = c.compare_deletes.ensures in
    IfOk-weaker c.compare_deletes.result _ _
    (λ done deletes apart es are order keys.
    contents_then_deletes es c.args.deposit.now c.deposit.inside.contents.entries c.deletes_of.result.now
    c.args.comparison.now c.compare_contents.new.comparison c.compare_deletes.new.comparison
    (ap (λ (d : DepositValue). d.contents) c.deposit.view_is) c.deletes_of.ensures
    (first.compared (reads.was_honest _ _ then.read.follows honest) e h apart es are order keys)
    (deletes apart es are order keys))
    (then.compared honest e (first.read.reflects e h))

pub returns-clause-read : goal.returns-clause-read
returns-clause-read g c =
    read_then g.met.R.Reads.goes_on c.in_ok-compare_contents.ensures.read c.compare_deletes.ensures.read
