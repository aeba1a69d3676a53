use Rattle.std.proofs.Common.{refl, sym, ap, subst, ◌∙◌}
use Rattle.esc_store.specs.StoreState.{AreHeldBy}
use Rattle.esc_desk.proofs.Deciding.{decided_moved}
use Rattle.esc_desk.proofs.Working.{moment_move}
use Rattle.esc_desk.proofs.desk.Desk.decide_moment.Goals as goal

pub returns-clause-decided : goal.returns-clause-decided
returns-clause-decided g c = λ clean e served.
    let k = served.serves.kept in
    let stood = served.serves.stands_for in
    let there = c.in_ok-cache.ensures.same.stands k served.serves.stands in
    let is = c.in_ok-cache.ensures.cache clean e k served.serves.stands stood served.remembers in
    let plan = c.in_ok-plan.ensures in
    decided_moved _ _ _ _ c.plan_latest.new.cache
    c.latest_chain_at_rows_are_held.ensures c.read_deposits_mention_few.ensures
    plan.sound (moment_move stood is (c.manifest.ensures.kept k there)
    refl plan.latest (plan.old ∙ is.chain)) (ap (λ v. v.items) plan.held)
    (subst (AreHeldBy k.receipts) (ap (λ v. v.items) (sym plan.told)) is.told)
