use Rattle.std.proofs.lemmas.Result.{on_ok_weaker}
use Rattle.esc_apply.proofs.Chains.{first_applied}
use Rattle.esc_apply.proofs.apply.apply_next.Goals as goal

pub returns-then-pos-eq1-clause-applied : goal.returns-then-pos-eq1-clause-applied
returns-then-pos-eq1-clause-applied g c = on_ok_weaker c.apply_first.result (λ made honest k at held.
    let registry = g.R.Registry in
    first_applied (registry.holds c.args.registry.now) (registry.holds c.apply_first.new.registry)
    k c.args.pos c.args.deposit.now at c.if-pos-eq1.true held (made honest))
    c.apply_first.ensures.applied
