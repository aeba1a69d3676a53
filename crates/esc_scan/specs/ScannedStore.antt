-- The store that a scan has.
use Rattle.std.specs.Prelude.{ℕ}
use Rattle.esc_scan.specs.declared.cursor.Scan.{Scan}

-- the same store, by the name of the reference to it
abbrev pub scan_name : {S : Type 0} → Scan S → ℕ
scan_name scan = scan.store.ghost_name

-- the store that is scanned, as it is now
abbrev pub scanned_store : {S : Type 0} → Scan S → S
scanned_store scan = scan.store.now
