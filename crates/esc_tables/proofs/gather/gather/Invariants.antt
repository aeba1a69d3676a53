use Rattle.std.proofs.Common.{◌≡◌, ◌≤◌, ◌++◌, length}
use Rattle.std.specs.Vec.Iter.{into_iter_items}
use Rattle.std.specs.BTreeMap.{get, IsOrdered}
use Rattle.esc_tables.specs.KeyName.{KeyName, key_cmp}
use Rattle.esc_tables.specs.Objects.{object_of, orphans_of}
use Rattle.esc_tables.proofs.gather.gather.Given as goal

abbrev pub invariant-loop-key : goal.invariant-loop-key
invariant-loop-key l = record {
  gathered : (k : KeyName) → get key_cmp l.objects k ≡ object_of l.fn.parents.items l.yielded k;
  ordered : IsOrdered key_cmp l.objects;
  counted : l.orphans ≡ orphans_of l.fn.parents.items l.yielded;
  few : l.orphans ≤ length l.yielded;
  whole : l.yielded ++ into_iter_items l.key-iterator ≡ l.fn.children.items;
}
