use Rattle.std.proofs.Common.{◌≡◌, length, IsSome}
use Rattle.sqlite_trees.specs.View.{IsClean, IsQuiet}
use Rattle.esc_scan.specs.ScannedStore.{scan_name, scanned_store}
use Rattle.esc_scan.specs.Scanning.{OnlyCursors, left_of}
use Rattle.esc_scan.proofs.Scans.{HasFirst}
use Rattle.esc_scan.proofs.page.read_entries.Given as goal

-- the entries so far are of the kind
abbrev pub invariant-loop : goal.invariant-loop
invariant-loop g l =
    let now = g.S.Store.view (scanned_store l.scan) in
    let start = g.S.Store.view (scanned_store l.fn.scan) in
    record {
      same : scan_name l.scan ≡ scan_name l.fn.scan;
      live : IsSome (now.cursors 0);
      read : IsClean now → HasFirst l.kind (left_of start) now l.entries.items;
      long : length l.entries.items ≡ l.counter;
      only : IsClean now → OnlyCursors start now;
      quiet : IsQuiet g.S.Store.view g.S.Store.faults g.S.Store.recovers
          g.S.Store.is_shielded (scanned_store l.fn.scan) (scanned_store l.scan);
    }
