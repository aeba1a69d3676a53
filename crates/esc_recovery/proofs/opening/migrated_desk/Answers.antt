use Rattle.std.proofs.Common.{sym, subst}
use Rattle.esc_store.specs.FirstVersion.{LeavesFirstOr}
use Rattle.esc_store.specs.Representation.{IsHonest}
use Rattle.esc_events.specs.FirstVersion.{events_before}
use Rattle.esc_recovery.proofs.opening.migrated_desk.Goals as goal

pub returns-in-Ok-clause-migrated : goal.returns-in-Ok-clause-migrated
returns-in-Ok-clause-migrated g c =
    let same = c.open.ensures.same in
    record {
      honest = λ honest. c.in-Ok.ensures.honest (subst (λ s. IsHonest g.S.Store s) same honest);
      serves = λ honest m l it. c.open.ensures.serves (events_before m l)
          (c.migrated_store_serves.ensures.serves m l it.kept it.stood_for (c.in-Ok.ensures.opened.found
          (subst (λ s. IsHonest g.S.Store s) same honest) it.kept it.store));
      left = λ m l it. c.open.ensures.left (events_before m l) it.kept (c.in-Ok.ensures.opened.left
          it.kept it.store) (c.migrated_store_serves.ensures.stands_for m l it.kept it.stood_for);
      version = λ honest. c.in-Ok.ensures.opened.version (subst (λ s. IsHonest g.S.Store s) same honest);
    }

pub returns-in-Ok-clause-crash : goal.returns-in-Ok-clause-crash
returns-in-Ok-clause-crash g c = λ k was. subst (λ s. LeavesFirstOr
    g.S.Store c.args.connection s.conn k) (sym c.open.ensures.same) (c.in-Ok.ensures.crash k was)

pub returns-in-Err-clause-never : goal.returns-in-Err-clause-never
returns-in-Err-clause-never g c = λ is clean up m l it. c.in-Err.ensures.refused.never is clean up it.kept it.store

pub returns-in-Err-clause-cause : goal.returns-in-Err-clause-cause
returns-in-Err-clause-cause g c = c.in-Err.ensures.refused.cause.kinds

pub returns-in-Err-clause-crash : goal.returns-in-Err-clause-crash
returns-in-Err-clause-crash g c = λ k was. c.in-Err.ensures.crash k was

pub returns-in-Err-clause-unchanged : goal.returns-in-Err-clause-unchanged
returns-in-Err-clause-unchanged g c = c.in-Err.ensures.refused.unchanged
