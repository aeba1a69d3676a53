use Rattle.std.proofs.Common.{◌≡◌, ◌≤◌, ℕ, ◌++◌, List, length, take, drop, ap, ap₂, sym, subst}
use Rattle.std.proofs.Common.{◌∙◌, arith}
use Rattle.std.proofs.lemmas.List.{length-map, take_rest}
use Rattle.esc_apply.specs.declared.front.Step.{Step}
use Rattle.esc_store.specs.Representation.{HasMadeBooks, HasMadeTables}
use Rattle.esc_store.specs.StandingLaws.{was_clean}
use Rattle.esc_store.specs.StoreState.{with_steps}
use Rattle.esc_events.specs.Plans.{rows_in_steps}
use Rattle.esc_desk.proofs.PlanLemmas.{rows_continued}
use Rattle.esc_desk.proofs.moves.move_by.Goals as goal

pub returns-clause-filled : goal.returns-clause-filled
returns-clause-filled g c = λ before k made held from still hand rest stood.
    let plan = c.args.plan.now in
    let parts = c.in_ok-work.ensures.follows.rest before made rest in
    let front = c.same_rows-front.result in
    let kept : made.steps ≡ rows_in_steps plan.old.items = still ∙ from.steps in
    let size = ap length kept ∙ length-map plan.old.items (λ (s : Step). s.row) in
    let within : front ≤ length made.steps =
    omega (arith, size, c.same_rows-front.ensures.in_old, ap length c.deref.ensures.value) in
    let same : take front (rows_in_steps plan.old.items) ≡ take front (rows_in_steps plan.new.items) =
    ap (λ (steps : List Step). take front (rows_in_steps steps)) (sym c.deref.ensures.value)
    ∙ c.same_rows-front.ensures.same
    ∙ ap (λ (steps : List Step). take front (rows_in_steps steps)) c.deref-2.ensures.value in
    let past = take_rest c.deref-3.result.now front ∙ ap (drop front) c.deref-3.ensures.value in
    let steps = ap₂ (λ (rows : List ℕ) (steps : List Step). take front rows ++ rows_in_steps steps)
    kept past ∙ rows_continued plan.old.items plan.new.items front same in
    record {
      tables = made.registry;
      rest = subst (λ (rows : List ℕ). HasMadeBooks
          g.S.Store c.replace_chain_from.new.self before (with_steps made rows))
          steps (c.in_ok-replace_chain_from.ensures.set before made within parts);
      holds = λ clean.
          let honest = was_clean c.in_ok-replace_chain_from.ensures.goes_on.survives clean in
          c.in_ok-replace_chain_from.ensures.holds
          _ (c.in_ok-work.ensures.moved honest before made held from.count
          hand rest (subst (HasMadeTables g.S.Store c.args.change.now) from.registry stood));
    }

pub returns-clause-worked : goal.returns-clause-worked
returns-clause-worked g c = λ clean before k made held from hand rest stood.
    let honest = was_clean c.in_ok-replace_chain_from.ensures.goes_on.survives clean in
    c.in_ok-work.ensures.cost honest before made held
    from.count hand rest (subst (HasMadeTables g.S.Store c.args.change.now) from.registry stood)
