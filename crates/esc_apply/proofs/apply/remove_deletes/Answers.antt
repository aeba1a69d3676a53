use Rattle.std.proofs.Common.{◌≡◌, ◌+◌, List, [], ◌∷◌, map, length, ap, arith}
use Rattle.esc_tables.specs.KeyName.{KeyName}
use Rattle.esc_apply.specs.Changes.{without, changed_by}
use Rattle.esc_apply.proofs.Counts.{one_counted}
use Rattle.esc_apply.specs.ChangeLaws.{fills_more}
use Rattle.esc_apply.specs.declared.registry.Keys.TheVariants.{Unknown}
use Rattle.esc_apply.proofs.apply.remove_deletes.Goals as goal

pub loop-key-preserved : goal.loop-key-preserved
loop-key-preserved g c =
    let registry = g.R.Registry in
    let before = c.loop-key.invariant in
    let made = c.in_ok-remove_noted.ensures in
    let one = ap length c.in-Some.ensures.steps in
    let more : length c.loop-key.key-iterator ≡ length c.next.new.self + 1 = omega (arith, one) in
    record {
      follows = g.met.R.Registry.goes_on _ _ _ before.follows made.follows;
      counted = one_counted (registry.count c.loop-key.registry)
          (registry.count c.remove_noted.new.registry)
          (length c.loop-key.key-iterator) (length c.next.new.self) _ more before.counted made.counted;
      leads = λ honest s held new.
          fills_more (registry.holds c.loop-key.registry) (registry.holds c.remove_noted.new.registry)
          Unknown (changed_by s c.args.pos (map without c.args.deletes.now.keys))
          c.args.pos (without c.in-Some.key.now ∷ [])
          (map without c.next.new.self) (map without c.loop-key.key-iterator)
          (ap (λ (l : List KeyName). map without l) c.in-Some.ensures.steps)
          (before.leads (g.met.R.Registry.was_honest _ _ made.follows honest) s held new)
          (λ t held can. made.changed honest t held can.fresh.0);
    }

pub returns-in_err-remove_noted-clause-follows : goal.returns-in_err-remove_noted-clause-follows
returns-in_err-remove_noted-clause-follows g c =
    g.met.R.Registry.goes_on _ _ _ c.loop-key.invariant.follows c.remove_noted.ensures.follows
