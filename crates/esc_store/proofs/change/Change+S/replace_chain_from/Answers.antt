use Rattle.esc_store.proofs.Common.{◌≡◌, ◌+◌, ap, unwrap_or, map, arith, refl, sym, if_ok}
use Rattle.esc_store.proofs.RowSteps.{books_steps}
use Rattle.esc_store.proofs.Following.{stepped, goes_step, made_then, holds_all, registry_same, become_turns}
use Rattle.esc_store.proofs.change.Change+S.replace_chain_from.Goals as goal

pub returns-clause-goes_on : goal.returns-clause-goes_on
returns-clause-goes_on g c =
    let at : c.args.front + 1 ≡ c.in_ok-from.from =
    omega (arith, c.in_ok-from.ensures.number, c.saturating_add.ensures) in
    let done = c.continue_steps_here.ensures in
    goes_step (stepped done.manifest done.writes (done.step (map (λ step. step.row) c.args.steps.now)
    (rw (c.as_slice.ensures.value, ← at) c.in_ok-stored.ensures.rows)) (become_turns _))

pub returns-clause-listed : goal.returns-clause-listed
returns-clause-listed g c = ap (unwrap_or c.args.self.now.listing) c.continue_steps_here.ensures.manifest

pub returns-clause-set : goal.returns-clause-set
returns-clause-set g c = if_ok c.continue_steps_here.result _ (λ x is before k within.
    let at : c.args.front + 1 ≡ c.in_ok-from.from =
    omega (arith, c.in_ok-from.ensures.number, c.saturating_add.ensures) in
    let done = c.continue_steps_here.ensures in
    made_then (stepped done.manifest done.writes (done.step (map (λ step. step.row) c.args.steps.now)
    (rw (c.as_slice.ensures.value, ← at) c.in_ok-stored.ensures.rows)) (become_turns _))
    _ refl (books_steps k c.args.front _ _ (sym at) within) before)

pub returns-clause-holds : goal.returns-clause-holds
returns-clause-holds g c =
    let at : c.args.front + 1 ≡ c.in_ok-from.from =
    omega (arith, c.in_ok-from.ensures.number, c.saturating_add.ensures) in
    let done = c.continue_steps_here.ensures in
    holds_all (stepped done.manifest done.writes (done.step (map (λ step. step.row) c.args.steps.now)
    (rw (c.as_slice.ensures.value, ← at) c.in_ok-stored.ensures.rows)) (become_turns _))
    (λ _ _ _ turn. registry_same turn.is refl refl)
