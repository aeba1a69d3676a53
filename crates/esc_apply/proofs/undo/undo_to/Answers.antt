use Rattle.std.proofs.Common.{◌≡◌, ◌+◌, ◌-◌, ◌<◌, ℕ, suc, length, arith}
use Rattle.esc_apply.specs.Registry.{saturated}
use Rattle.esc_apply.proofs.Chains.{one_less}
use Rattle.esc_apply.proofs.undo.undo_to.Goals as goal

counted_on : (before was now n writes all : ℕ) → was ≡ saturated (before + writes)
    → now ≡ saturated (was + n) → all ≡ saturated (writes + n) → now ≡ saturated (before + all)
counted_on before was now n writes all counted made sum = omega (arith, counted, made, sum)

pub loop-left-preserved : goal.loop-left-preserved
loop-left-preserved g c =
    let registry = g.R.Registry in
    let before = c.loop-left.invariant in
    let made = c.in_ok-undo_step.ensures in
    let left = c.loop-left.left in
    record {
      above = omega arith;
      within = omega (arith, before.within);
      follows = g.met.R.Registry.goes_on _ _ _ before.follows made.follows;
      counted = counted_on (registry.count c.args.registry.now) (registry.count c.loop-left.registry)
          (registry.count c.undo_step.new.registry) c.in_ok-undo_step.field-0 c.loop-left.writes
          c.saturating_add-writes.result before.counted made.counted c.saturating_add-writes.ensures;
      chain = λ honest k len held.
          let now = before.chain (g.met.R.Registry.was_honest _ _ made.follows honest) k len held in
          let is : left ≡ suc (left - 1) = omega arith in
          let below : left - 1 < length k = omega (arith, len, before.within) in
          let less = one_less (registry.holds c.loop-left.registry)
          (registry.holds c.undo_step.new.registry) k left (left - 1)
          c.loop-left.writes c.in_ok-undo_step.field-0 is below now.1 now.0 (made.undone honest) in
          (less.0, let sum = less.1 in let made = c.saturating_add-writes.ensures in cc);
    }
