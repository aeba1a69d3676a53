use Rattle.std.proofs.Common.{map, string_bytes}
use Rattle.serde_json.specs.View.{view}
use Rattle.esc_envelope.specs.DeclaredTables.{field_of}
use Rattle.esc_envelope.specs.GatherLaws.{IsGathered}
use Rattle.esc_envelope.proofs.texts.all_fields.Given as goal

abbrev pub invariant-loop-value : goal.invariant-loop-value
invariant-loop-value l = IsGathered field_of view l.values l.value-index (map string_bytes l.fields.items)
