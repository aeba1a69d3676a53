use Rattle.std.proofs.Common.{◌≡◌, ◌&&◌, is_some, take}
use Rattle.std.specs.Prelude.{not}
use Rattle.std.specs.List.{list_any}
use Rattle.std.specs.Map.{lookup}
use Rattle.std.specs.BTreeSet as sorted
use Rattle.esc_tables.specs.KeyName.{KeyName, key_cmp, key_eq}
use Rattle.esc_apply.proofs.apply.plain_deletes.Given as goal

abbrev pub invariant-loop-key : goal.invariant-loop-key
invariant-loop-key l = record {
  ordered : sorted.IsOrdered key_cmp l.plain;
  each : (q : KeyName) → sorted.contains key_cmp l.plain q ≡ (list_any (key_eq q)
      (take l.key-index l.deletes) && not (is_some (lookup (key_eq q) l.contents.entries)));
}
