use Rattle.std.proofs.Common.{◌≡◌, map, take}
use Rattle.sqlite.specs.Opening.{unrooted}
use Rattle.esc_scan.proofs.opening.listing.without_roots.Given as goal

abbrev pub invariant-loop-entry : goal.invariant-loop-entry
invariant-loop-entry l = l.rows.items ≡ map unrooted (take l.entry-index l.listed)
