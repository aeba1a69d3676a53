use Rattle.std.proofs.Common.{◌≡◌, ◌+◌, map, length}
use Rattle.esc_apply.specs.Registry.{State, saturated}
use Rattle.esc_apply.specs.Changes.{with_object, changed_by, AreNew}
use Rattle.esc_apply.specs.Memory.{Keeps}
use Rattle.esc_apply.specs.ChangeLaws.{Fills}
use Rattle.esc_apply.specs.declared.registry.Keys.TheVariants.{Unknown}
use Rattle.esc_apply.proofs.memory.MemRegistryRegistry.put_all.Given as goal

-- the entries that are left lead to where all of them lead
abbrev pub invariant-loop-key : goal.invariant-loop-key
invariant-loop-key l =
    let all = map with_object l.objects.entries in
    record {
      counted : saturated (l.self.count + length l.key-iterator)
          ≡ saturated (l.fn.self.count + length l.objects.entries);
      leads : (s : State) → Keeps l.fn.self.objects.entries l.fn.self.notes.entries s → AreNew s l.step all
          → Fills (Keeps l.self.objects.entries l.self.notes.entries)
          Unknown (changed_by s l.step all) l.step (map with_object l.key-iterator);
    }
