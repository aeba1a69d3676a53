use Rattle.std.proofs.Common.{◌≡◌, take}
use Rattle.std.specs.List.{flat_map}
use Rattle.std.specs.BTreeSet as sorted
use Rattle.esc_tables.specs.KeyName.{key_cmp}
use Rattle.esc_conformity.specs.declared.roid.Holder.{Holder}
use Rattle.esc_conformity.specs.Flaws.{flaw_of}
use Rattle.esc_conformity.proofs.roid.keys_with.Given as goal

-- the keys so far
abbrev pub invariant-loop-holder : goal.invariant-loop-holder
invariant-loop-holder l = l.keys.items ≡ flat_map
    (λ (h : Holder). flaw_of (sorted.contains key_cmp l.shared h.roid) h.key) (take l.holder-index l.holders)
