use Rattle.std.proofs.Common.{◌++◌, [], map, refl, ap, arith}
use Rattle.std.proofs.lemmas.Map.Keys.{IsDistinct-from_sorted}
use Rattle.esc_tables.specs.KeyName.{key_cmp}
use Rattle.esc_tables.specs.DepositValue.{DepositValue}
use Rattle.esc_apply.specs.Changes.{with_object, without}
use Rattle.esc_apply.specs.Images.{chain_state}
use Rattle.esc_apply.proofs.Chains.{fresh-chain, applied_next}
use Rattle.esc_apply.proofs.Mentions.{changes_made, changes_counted}
use Rattle.esc_apply.proofs.Runs.{AreChangesOf, first_all, step_made}
use Rattle.esc_apply.proofs.apply.apply_first.Given as given
use Rattle.esc_apply.proofs.apply.apply_first.Goals as goal

made : (g : given.Over) (c : goal.After-drop-deletes-2 g) → AreChangesOf c.args.deposit.now
    (map with_object c.deposit.inside.contents.entries ++ map without c.in_ok-deletes.deletes.keys)
made g c = changes_made c.args.deposit.now
    c.deposit.inside.contents.entries c.deletes_of.result.now c.in_ok-deletes.deletes.keys
    (ap (λ (d : DepositValue). d.contents) c.deposit.view_is) c.deletes_of.ensures
    (IsDistinct-from_sorted key_cmp _ c.len-2.ensures.ordered)
    (IsDistinct-from_sorted key_cmp _ c.in_ok-deletes.ensures.ordered)
    c.in_ok-deletes.ensures.each

pub returns-clause-number : goal.returns-clause-number
returns-clause-number g c =
    let all = changes_counted
    c.args.deposit.now c.deposit.inside.contents.entries c.in_ok-deletes.deletes.keys (made g c) in
    omega (arith, all, c.len.ensures.len, c.len-2.ensures.len)

pub returns-clause-counted : goal.returns-clause-counted
returns-clause-counted g c =
    let all = changes_counted
    c.args.deposit.now c.deposit.inside.contents.entries c.in_ok-deletes.deletes.keys (made g c) in
    omega (arith, all, c.in_ok-put_all.ensures.counted, c.in_ok-remove_deletes.ensures.counted)

pub returns-clause-applied : goal.returns-clause-applied
returns-clause-applied g c = λ honest held.
    let registry = g.R.Registry in
    let s = chain_state [] in
    applied_next (registry.holds c.remove_deletes.new.registry) [] 1 c.args.deposit.now refl
    (step_made (registry.holds c.put_all.new.self) (registry.holds c.remove_deletes.new.registry) s 1 c.args.deposit.now
    (map with_object c.deposit.inside.contents.entries)
    (map without c.in_ok-deletes.deletes.keys) (made g c) (fresh-chain [] 1 refl)
    (λ new. c.in_ok-put_all.ensures.put (g.met.R.Registry.was_honest
    _ _ c.in_ok-remove_deletes.ensures.follows honest) s held (first_all s 1 _ (λ q. refl) new))
    (c.in_ok-remove_deletes.ensures.removed honest))
