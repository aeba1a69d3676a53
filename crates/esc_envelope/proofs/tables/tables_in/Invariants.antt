use Rattle.serde_json.specs.View.{view}
use Rattle.esc_envelope.specs.DeclaredTables.{table_of}
use Rattle.esc_envelope.specs.GatherLaws.{IsGathered}
use Rattle.esc_envelope.proofs.tables.tables_in.Given as goal

abbrev pub invariant-loop-value : goal.invariant-loop-value
invariant-loop-value l = IsGathered table_of view l.values l.value-index l.tables.items
