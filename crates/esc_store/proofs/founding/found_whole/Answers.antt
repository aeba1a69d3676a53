use Rattle.esc_store.proofs.Common.{IfOk-at_ok, if_ok}
use Rattle.esc_store.proofs.Ends.{survives_last, crash, left}
use Rattle.esc_store.proofs.founding.found_whole.Goals as goal

pub returns-clause-survives : goal.returns-clause-survives
returns-clause-survives g c = λ m e blank. survives_last c.build_here.ensures.survives
    (crash (c.in_ok-build_here.ensures.built m e blank) c.commit_in.ensures.survives)

pub returns-clause-left : goal.returns-clause-left
returns-clause-left g c = if_ok c.commit_in.result
    _ (λ x is m e blank. left (c.in_ok-build_here.ensures.built m e blank) c.commit_in.ensures.survives
    (λ clean. IfOk-at_ok _ is (c.commit_in.ensures.committed clean)) c.commit_in.ensures.only)
