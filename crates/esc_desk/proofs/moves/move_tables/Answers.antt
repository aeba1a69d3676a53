use Rattle.std.proofs.Common.{◌≡◌, ◌≤◌, ℕ, ◌+◌, ◌++◌, List, length, take, drop, sum_by, sym, ap}
use Rattle.std.proofs.Common.{ap₂, subst, ◌∙◌, arith, length-take}
use Rattle.std.proofs.lemmas.List.{length-drop, take_rest}
use Rattle.esc_tables.specs.DepositValue.{DepositValue}
use Rattle.esc_tables.specs.Reading.{reading}
use Rattle.esc_apply.specs.declared.front.Step.{Step}
use Rattle.esc_apply.specs.Front.{common_front}
use Rattle.esc_apply.specs.Images.{chain_state}
use Rattle.esc_apply.specs.Moves.{undone_of, work_of}
use Rattle.esc_apply.specs.Registry.{saturated}
use Rattle.esc_apply.specs.Tables.{mention_count}
use Rattle.esc_store.specs.Representation.{HasMadeTables}
use Rattle.esc_store.specs.StandingLaws.{was_clean}
use Rattle.esc_events.specs.Plans.{deposits_past, front_of, rows_in_steps}
use Rattle.esc_events.specs.StateAfter.{deposits_of}
use Rattle.esc_desk.proofs.moves.move_tables.Goals as goal

length_front : (k : List DepositValue) (f steps : ℕ)
    → length k ≡ steps → f ≤ steps → length (take f k) ≡ f
length_front k f steps len within = omega (arith, len, within, length-take f k)

pub returns-clause-moved : goal.returns-clause-moved
returns-clause-moved g c = λ clean before k held len hand rest stood.
    let plan = c.args.plan.now in
    let front = c.common_front-front.result in
    let fronts : front ≡ front_of plan = c.common_front-front.ensures.front
    ∙ ap₂ common_front c.deref.ensures.value c.deref-2.ensures.value in
    let past = take_rest c.deref-3.result.now front
    ∙ ap₂ (λ (n : ℕ) (l : List Step). drop n l) fronts c.deref-3.ensures.value in
    let within : front ≤ length plan.old.items = omega
    (arith, c.common_front-front.ensures.longest.common.in_old, ap length c.deref.ensures.value) in
    let forth = c.in_ok-forth.ensures in
    let steps : length plan.old.items ≡ c.len-steps.result = omega (arith, c.len-steps.ensures) in
    let back = c.in_ok-back.ensures.gone (was_clean forth.follows.goes_on.survives clean) held (len ∙ steps) stood in
    let moved = forth.applied clean before k (take front held) (length_front held front _ len within)
    hand (c.in_ok-back.ensures.follows.rest before k rest) back.0 in
    subst (λ (ds : List DepositValue). HasMadeTables g.S.Store c.apply_held.new.change (chain_state ds))
    (ap₂ (λ (n : ℕ) (l : List Step). take n held ++ deposits_of reading k.bodies (rows_in_steps l))
    fronts past) moved

pub returns-clause-cost : goal.returns-clause-cost
returns-clause-cost g c = λ clean before k held len hand rest stood room.
    let plan = c.args.plan.now in
    let front = c.common_front-front.result in
    let fronts : front ≡ front_of plan = c.common_front-front.ensures.front
    ∙ ap₂ common_front c.deref.ensures.value c.deref-2.ensures.value in
    let past = take_rest c.deref-3.result.now front
    ∙ ap₂ (λ (n : ℕ) (l : List Step). drop n l) fronts c.deref-3.ensures.value in
    let forth = c.in_ok-forth.ensures in
    let steps : length plan.old.items ≡ c.len-steps.result = omega (arith, c.len-steps.ensures) in
    let back = c.in_ok-back.ensures.gone (was_clean forth.follows.goes_on.survives clean) held (len ∙ steps) stood in
    let ds = deposits_past plan k.bodies in
    let number : c.in_ok-forth.forth ≡ saturated (sum_by mention_count ds) =
    forth.number clean before k hand (c.in_ok-back.ensures.follows.rest before k rest)
    ∙ ap (λ (l : List Step). saturated
    (sum_by mention_count (deposits_of reading k.bodies (rows_in_steps l)))) past in
    let applied = ap length past ∙ length-drop (front_of plan) plan.new.items in
    let writes = ap (λ (f : ℕ). sum_by mention_count (undone_of held f) + sum_by mention_count ds) fronts in
    c.work_of.ensures.exact held ds back.1 number room
    ∙ (λ i. work_of (sym steps i) (fronts i) (applied i) (writes i))
