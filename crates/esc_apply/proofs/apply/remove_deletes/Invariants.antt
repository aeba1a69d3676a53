use Rattle.std.proofs.Common.{◌≡◌, ◌+◌, map, length}
use Rattle.esc_apply.specs.Registry.{State, saturated}
use Rattle.esc_apply.specs.Changes.{without, changed_by, AreNew}
use Rattle.esc_apply.specs.ChangeLaws.{Fills}
use Rattle.esc_apply.specs.declared.registry.Keys.TheVariants.{Unknown}
use Rattle.esc_apply.proofs.apply.remove_deletes.Given as goal

-- the keys that are left lead to where all of them lead
abbrev pub invariant-loop-key : goal.invariant-loop-key
invariant-loop-key g l =
    let registry = g.R.Registry in
    let all = map without l.deletes.keys in
    record {
      follows : registry.follows l.fn.registry l.registry;
      counted : saturated (registry.count l.registry + length l.key-iterator)
          ≡ saturated (registry.count l.fn.registry + length l.deletes.keys);
      leads : registry.is_honest l.registry → (s : State)
          → registry.holds l.fn.registry s → AreNew s l.pos all → Fills (registry.holds l.registry)
          Unknown (changed_by s l.pos all) l.pos (map without l.key-iterator);
    }
