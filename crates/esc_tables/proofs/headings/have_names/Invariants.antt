use Rattle.std.proofs.Common.{◌≡◌, map, take}
use Rattle.csv.specs.Records.{fields_of}
use Rattle.esc_tables.proofs.headings.have_names.Given as goal

-- the names so far are those of the cells
abbrev pub invariant-loop-cell : goal.invariant-loop-cell
invariant-loop-cell l = record {
  place : l.at ≡ l.cell-index;
  same : take l.cell-index (fields_of l.names) ≡ map (λ c. c.0.now) (take l.cell-index l.cells);
}
