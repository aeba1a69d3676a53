use Rattle.std.proofs.Common.{◌≡◌, Some, map, take}
use Rattle.sqlite_trees.specs.View.{IsClean, IsQuiet}
use Rattle.esc_sql.specs.Content.{Content, HoldsRows}
use Rattle.esc_sql.specs.Entries.{stored_entry}
use Rattle.esc_scan.specs.declared.page.KeyEntry.{KeyEntry}
use Rattle.esc_scan.specs.ObjectKeys.{object_with}
use Rattle.esc_scan.specs.Scanning.{OnlyCursors}
use Rattle.esc_scan.proofs.page.objects_at.Given as goal

-- the objects of the entries so far
abbrev pub invariant-loop-entry : goal.invariant-loop-entry
invariant-loop-entry g l =
    let now = g.S.Store.view l.store in
    let start = g.S.Store.view l.fn.store in
    record {
      only : IsClean now → OnlyCursors start now;
      quiet : IsQuiet g.S.Store.view
          g.S.Store.faults g.S.Store.recovers g.S.Store.is_shielded l.fn.store l.store;
      found : IsClean now → (c : Content) → HoldsRows start.trees c
          → map (λ it. Some (stored_entry it)) l.found.items
          ≡ map (λ (it : KeyEntry). object_with it.rowid c.objects) (take l.entry-index l.entries);
    }
