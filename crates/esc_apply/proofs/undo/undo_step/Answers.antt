use Rattle.std.proofs.Common.{◌≡◌, ◌+◌, ◌++◌, ◌∷◌, [], ◌∙◌, length, drop, ap, arith}
use Rattle.std.proofs.Common.{length-drop}
use Rattle.esc_apply.specs.Registry.{restored, saturated}
use Rattle.esc_apply.specs.Images.{chain_state}
use Rattle.esc_apply.proofs.Counts.{all_counted}
use Rattle.std.proofs.lemmas.List.{nil_from_length}
use Rattle.esc_apply.proofs.Chains.{undone_last}
use Rattle.esc_apply.specs.ChangeLaws.{returns_last}
use Rattle.esc_apply.proofs.Runs.{returns_first}
use Rattle.esc_apply.proofs.undo.undo_step.Goals as goal

pub loop-entry-init : goal.loop-entry-init
loop-entry-init g c = rw c.deref-entry-items.ensures.value (record {
  follows = c.take_undo.ensures.follows;
  counted = ap (λ n. saturated (n + length c.in_ok-befores.befores.items)) c.in_ok-befores.ensures.counted;
  returns = λ honest s held.
      let found = c.in_ok-befores.ensures.taken honest s held in
      (found.0, returns_first _ s c.args.pos _ found.0 found.1);
})

pub returns-clause-counted : goal.returns-clause-counted
returns-clause-counted g c =
    let count = g.R.Registry.count in
    let none : length (drop c.loop-entry.entry-index c.deref-entry-items.result.now) ≡ 0 =
    omega (arith, length-drop c.loop-entry.entry-index c.deref-entry-items.result.now) in
    let same = ap length c.deref-entry-items.ensures.value in
    let all : length c.deref-entry-items.result.now ≡ c.len.result =
    omega (arith, same, c.in_ok-befores.befores.ok) in
    all_counted (count c.loop-entry.registry) c.len.result _ (count c.args.registry.now)
    (g.met.R.Registry.bounded c.loop-entry.registry) none
    (c.loop-entry.invariant.counted ∙ ap (λ n. saturated (count c.args.registry.now + n)) all)

pub returns-clause-undone : goal.returns-clause-undone
returns-clause-undone g c = λ honest k d at held.
    let held_now = g.R.Registry.holds c.loop-entry.registry in
    let s = chain_state (k ++ d ∷ []) in
    let items = c.deref-entry-items.result.now in
    let back = c.loop-entry.invariant.returns honest s held in
    let none : length (drop c.loop-entry.entry-index items) ≡ 0 =
    omega (arith, length-drop c.loop-entry.entry-index items) in
    let same = ap length c.deref-entry-items.ensures.value in
    let all : length items ≡ c.len.result = omega (arith, same, c.in_ok-befores.befores.ok) in
    undone_last held_now k d c.args.pos c.len.result at (items, back.0, all)
    (returns_last held_now (restored s c.args.pos) _ (nil_from_length _ none) back.1)
