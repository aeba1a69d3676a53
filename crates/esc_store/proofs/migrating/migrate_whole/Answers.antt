use Rattle.std.proofs.Common.{rules}
use Rattle.esc_store.proofs.Ends.{survives_last}
use Rattle.esc_store.proofs.OpeningLemmas.{tested, if_err_is}
use Rattle.esc_store.proofs.migrating.migrate_whole.Goals as goal

pub returns-clause-survives : goal.returns-clause-survives
returns-clause-survives g c = λ k sees.
    survives_last c.test_first.ensures.survives (c.commit_upgraded.ensures.survives
    k (tested c.test_first.ensures.survives c.in_ok-test_first.ensures.version sees))

pub returns-in_err-test_first-clause-never : goal.returns-in_err-test_first-clause-never
returns-in_err-test_first-clause-never g c = if_err_is c.from_residual.result
    c.in_err-test_first.field-0.0 _ (search rules) c.in_err-test_first.ensures.never
