use Rattle.std.proofs.Common.{◌≡◌, map, take, string_bytes}
use Rattle.csv.specs.Records.{fields_of}
use Rattle.esc_tables.proofs.object.record_of.Given as goal

abbrev pub invariant-loop-text : goal.invariant-loop-text
invariant-loop-text l = fields_of l.record ≡ map string_bytes (take l.text-index l.texts)
