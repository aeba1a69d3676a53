use Rattle.std.proofs.Common.{◌≡◌, ◌+◌, ◌++◌, [], ◌∷◌, take, ap, sym, ◌∙◌, arith}
use Rattle.std.proofs.lemmas.List.{take_more}
use Rattle.esc_tables.specs.DepositValue.{DepositValue}
use Rattle.esc_apply.specs.Registry.{saturated}
use Rattle.esc_apply.proofs.Chains.{next_step, one_more, one_more_sum}
use Rattle.esc_apply.proofs.apply.apply_all.Goals as goal

pub loop-deposit-preserved : goal.loop-deposit-preserved
loop-deposit-preserved g c =
    let registry = g.R.Registry in
    let before = c.loop-deposit.invariant in
    let made = c.in_ok-apply_next.ensures in
    let ds = c.args.deposits.now in
    let i = c.loop-deposit.deposit-index in
    let d : DepositValue = c.deposit-item.result in
    let more : take (i + 1) ds ≡ take i ds ++ d ∷ [] = take_more ds i d c.loop-deposit-test.true
    ∙ ap (λ (x : DepositValue). take i ds ++ x ∷ []) (sym c.deposit-item.is) in
    record {
      at = omega (arith, before.at);
      follows = g.met.R.Registry.goes_on _ _ _ before.follows made.follows;
      number = c.saturating_add-writes.ensures ∙ ap (λ n. saturated (c.loop-deposit.writes + n))
          made.number ∙ one_more_sum ds i c.loop-deposit.writes 0 d more before.number;
      counted = made.counted ∙ one_more_sum ds i (registry.count c.loop-deposit.registry)
          (registry.count c.args.registry.now) d more before.counted;
      chain = λ honest k len held.
          let now = before.chain (g.met.R.Registry.was_honest _ _ made.follows honest) k len held in
          let at = next_step k ds c.args.steps i c.loop-deposit.pos len (omega arith) before.at in
          one_more (registry.holds c.apply_next.new.registry)
          k ds i d (made.applied honest (k ++ take i ds) at now) more;
    }
