use Rattle.std.proofs.Common.{◌≡◌, take}
use Rattle.std.specs.FinSet as set
use Rattle.esc_chain.specs.Chain.{InRange}
use Rattle.esc_chain.proofs.held.Held.from_rows.Given as goal

-- the rows so far, each of the manifest
abbrev pub invariant-loop-row : goal.invariant-loop-row
invariant-loop-row l = record {
  rows : l.held ≡ set.from_list (take l.row-index l.rows);
  in_range : InRange l.manifest l.held;
}
