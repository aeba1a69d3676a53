use Rattle.esc_store.proofs.Common.{was_clean}
use Rattle.esc_store.proofs.Ends.{survives_last, crash, left}
use Rattle.esc_store.proofs.migrating.commit_upgraded.Goals as goal

pub returns-in_err-commit_in-clause-survives : goal.returns-in_err-commit_in-clause-survives
returns-in_err-commit_in-clause-survives g c = λ k sees.
    let read = c.read_upgraded.ensures.survives in
    survives_last read (crash (λ clean. c.in_ok-manifest.ensures.upgraded
    clean k (sees (was_clean read clean))) c.commit_in.ensures.survives)

pub returns-clause-survives : goal.returns-clause-survives
returns-clause-survives g c = λ k sees.
    let read = c.read_upgraded.ensures.survives in
    survives_last read (crash (λ clean. c.in_ok-manifest.ensures.upgraded
    clean k (sees (was_clean read clean))) c.commit_in.ensures.survives)

pub returns-clause-left : goal.returns-clause-left
returns-clause-left g c = λ k sees.
    left (λ clean. c.in_ok-manifest.ensures.upgraded
    clean k (sees (was_clean c.read_upgraded.ensures.survives clean))) c.commit_in.ensures.survives
    c.in_ok-commit_in.ensures.committed c.commit_in.ensures.only
