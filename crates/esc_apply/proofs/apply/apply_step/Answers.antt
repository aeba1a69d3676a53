use Rattle.std.proofs.Common.{◌≡◌, ◌++◌, map, ap, arith}
use Rattle.std.proofs.lemmas.Result.{err_from_is_err_and}
use Rattle.std.proofs.lemmas.Map.Keys.{IsDistinct-from_sorted}
use Rattle.esc_tables.specs.KeyName.{key_cmp}
use Rattle.esc_tables.specs.DepositValue.{DepositValue}
use Rattle.esc_apply.specs.Changes.{with_object, without}
use Rattle.esc_apply.specs.Registry.{State, nothing, stepped}
use Rattle.esc_apply.specs.Images.{chain_state}
use Rattle.esc_apply.proofs.Chains.{fresh-chain, applied_next}
use Rattle.esc_apply.proofs.Mentions.{changes_made, changes_counted}
use Rattle.esc_apply.proofs.Runs.{AreChangesOf, step_made}
use Rattle.esc_apply.proofs.apply.apply_step.Given as given
use Rattle.esc_apply.proofs.apply.apply_step.Goals as goal

abbrev Made : (g : given.Over) (c : goal.After-drop-deletes-2 g) → Type 0
Made g c = AreChangesOf c.args.deposit.now
    (map with_object c.deposit.inside.contents.entries ++ map without c.in_ok-deletes.deletes.keys)

made : (g : given.Over) (c : goal.After-drop-deletes-2 g) → Made g c
made g c = changes_made c.args.deposit.now
    c.deposit.inside.contents.entries c.deletes_of.result.now c.in_ok-deletes.deletes.keys
    (ap (λ (d : DepositValue). d.contents) c.deposit.view_is) c.deletes_of.ensures
    (IsDistinct-from_sorted key_cmp _ c.len.ensures.ordered)
    (IsDistinct-from_sorted key_cmp _ c.in_ok-deletes.ensures.ordered)
    c.in_ok-deletes.ensures.each

pub returns-clause-number : goal.returns-clause-number
returns-clause-number g c =
    let all = changes_counted
    c.args.deposit.now c.deposit.inside.contents.entries c.in_ok-deletes.deletes.keys (made g c) in
    omega (arith, all, c.len.ensures.len, c.len-2.ensures.len)

pub returns-clause-counted : goal.returns-clause-counted
returns-clause-counted g c =
    let all = changes_counted
    c.args.deposit.now c.deposit.inside.contents.entries c.in_ok-deletes.deletes.keys (made g c) in
    omega (arith, all, c.in_ok-put_all.ensures.counted, c.in_ok-remove_deletes.ensures.counted)

abbrev Stepped : (g : given.Over) (c : goal.After-drop-deletes-2 g) → Type 0
Stepped g c = g.R.Registry.is_honest c.remove_deletes.new.registry
    → (s : State) → g.R.Registry.holds c.args.registry.now s → s.undo c.args.pos ≡ nothing
    → g.R.Registry.holds c.remove_deletes.new.registry (stepped s c.args.pos c.args.deposit.now)

all_stepped : (g : given.Over) (c : goal.After-drop-deletes-2 g) → Stepped g c
all_stepped g c = λ honest s held none.
    step_made (g.R.Registry.holds c.put_all.new.self)
    (g.R.Registry.holds c.remove_deletes.new.registry) s c.args.pos c.args.deposit.now
    (map with_object c.deposit.inside.contents.entries) (map without c.in_ok-deletes.deletes.keys) (made g c) none
    (c.in_ok-put_all.ensures.put (g.met.R.Registry.was_honest _ _ c.in_ok-remove_deletes.ensures.follows honest) s held)
    (c.in_ok-remove_deletes.ensures.removed honest)

pub returns-clause-stepped : goal.returns-clause-stepped
returns-clause-stepped g c = all_stepped g c

pub returns-clause-applied : goal.returns-clause-applied
returns-clause-applied g c = λ honest k at held.
    applied_next (g.R.Registry.holds c.remove_deletes.new.registry) k c.args.pos c.args.deposit.now at
    (all_stepped g c honest (chain_state k) held (fresh-chain k c.args.pos (omega (arith, at))))

pub returns-in_err-deletes-clause-cause : goal.returns-in_err-deletes-clause-cause
returns-in_err-deletes-clause-cause g c =
    let p = err_from_is_err_and c.from_residual.result c.from_residual.ensures.1 in
    rw p.1 (g.met.R.Registry.wants_memory _ _ p.2)
