use Rattle.std.proofs.Common.{ℕ, List, ◌++◌, ◌∷◌, [], ◌<◌, ◌≤◌, length, refl, sym, ap, subst}
use Rattle.std.proofs.Common.{◌∙◌, arith, length-append}
use Rattle.esc_manifest.specs.declared.row.MRow.{MRow}
use Rattle.esc_apply.specs.declared.front.Step.{Step}
use Rattle.esc_store.specs.StoreState.{step_at}
use Rattle.esc_desk.specs.Lengthening.{Lengthens}
use Rattle.esc_desk.proofs.Lengthening.{latest_with}
use Rattle.esc_desk.proofs.plan.steps_with.Goals as goal

pub step_of-last-requires : goal.step_of-last-requires
step_of-last-requires c = subst (λ (m : List MRow). c.args.row < length m)
    (sym c.rows.ensures.rows) (c.if-lengthens.ensures.longer refl).listed

pub with_step-requires : goal.with_step-requires
with_step-requires c = (c.if-lengthens.ensures.longer refl).few

pub returns-then-lengthens-clause-few : goal.returns-then-lengthens-clause-few
returns-then-lengthens-clause-few c =
    let few = (c.if-lengthens.ensures.longer refl).few in
    subst (λ (l : List Step). length l ≤ 4096) (sym c.in_ok-with_step.ensures)
    (omega (arith, length-append c.as_slice-chain.result.now (c.step_of-last.result ∷ []), few))

pub returns-then-lengthens-clause-steps : goal.returns-then-lengthens-clause-steps
returns-then-lengthens-clause-steps c = λ before.
    let manifest = c.args.manifest.now in
    let chain = c.args.cache.now.chain.items in
    let rows = c.args.cache.now.held_rows.items in
    let chain_is = c.as_slice-chain.ensures.value in
    let last = c.step_of-last.ensures ∙ ap (λ (m : List MRow). step_at m c.args.row) c.rows.ensures.rows in
    let more = c.in_ok-with_step.ensures
    ∙ ap (λ (s : Step). c.as_slice-chain.result.now ++ s ∷ []) last
    ∙ ap (λ (h : List Step). h ++ step_at manifest c.args.row ∷ []) chain_is in
    let longer =
    subst (λ (h : List Step). Lengthens manifest rows c.args.moment c.args.row h) chain_is
    (subst (λ (r : List ℕ). Lengthens manifest r c.args.moment c.args.row c.as_slice-chain.result.now)
    c.as_slice-rows.ensures.value (c.if-lengthens.ensures.longer refl)) in
    latest_with manifest rows c.args.moment c.args.row chain c.in_ok-with_step.field-0.items
    longer before c.rows.ensures.accepted more
