use Rattle.std.proofs.Common.{◌≡◌, map, take}
use Rattle.csv.specs.Records.{fields_of}
use Rattle.esc_tables.proofs.headings.names_of.Given as goal

abbrev pub invariant-loop-name : goal.invariant-loop-name
invariant-loop-name l = fields_of l.names ≡ map (λ c. c.0.now) (take l.name-index l.cells)
