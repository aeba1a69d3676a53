use Rattle.std.proofs.Common.{subst}
use Rattle.esc_store.specs.Representation.{IsHonest}
use Rattle.esc_store.specs.StandingLaws.{was_clean}
use Rattle.esc_recovery.proofs.opening.open_desk.Goals as goal

pub returns-in-Ok-clause-opened : goal.returns-in-Ok-clause-opened
returns-in-Ok-clause-opened g c =
    let same = c.open-in-Ok.ensures.same in
    record {
      honest = λ honest. was_clean c.in-Ok.ensures.survives (subst (λ s. IsHonest g.S.Store s) same honest);
      serves = λ honest e it. c.open-in-Ok.ensures.serves e (record {
        kept = it.kept;
        stands = c.in-Ok.ensures.opened.found (subst (λ s. IsHonest g.S.Store s) same honest)
            it.kept it.store;
        stands_for = it.stands_for;
      });
      left = λ e it. c.open-in-Ok.ensures.left e it.kept (c.in-Ok.ensures.opened.left it.kept it.store) it.stands_for;
      version = λ honest. c.in-Ok.ensures.opened.version (subst (λ s. IsHonest g.S.Store s) same honest);
    }

pub returns-in-Err-clause-never : goal.returns-in-Err-clause-never
returns-in-Err-clause-never g c = λ is clean up events it. c.in-Err.ensures.refused.never is clean up it.kept it.store

pub returns-in-Err-clause-cause : goal.returns-in-Err-clause-cause
returns-in-Err-clause-cause g c = c.in-Err.ensures.refused.cause.kinds

pub returns-in-Err-clause-unchanged : goal.returns-in-Err-clause-unchanged
returns-in-Err-clause-unchanged g c = c.in-Err.ensures.refused.unchanged
