use Rattle.std.proofs.Common.{map, take}
use Rattle.esc_tables.specs.KeyName.{key_cmp}
use Rattle.esc_conformity.specs.declared.roid.Holder.{Holder}
use Rattle.esc_conformity.specs.Repeats.{AreRepeatsIn}
use Rattle.esc_conformity.proofs.roid.shared_roids.Given as goal

-- the ROIDs so far came
abbrev pub invariant-loop-holder : goal.invariant-loop-holder
invariant-loop-holder l = AreRepeatsIn key_cmp
    (map (λ (h : Holder). h.roid) (take l.holder-index l.holders)) l.roids
