use Rattle.std.proofs.Common.{◌≡◌, map, take}
use Rattle.csv.specs.Records.{fields_of}
use Rattle.esc_tables.proofs.object.texts_of.Given as goal

abbrev pub invariant-loop-text : goal.invariant-loop-text
invariant-loop-text l = fields_of l.texts ≡ map (λ c. c.1.now) (take l.text-index l.cells)
