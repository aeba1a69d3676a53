use Rattle.std.proofs.Common.{map, string_bytes}
use Rattle.serde_json.specs.View.{view}
use Rattle.serde_json.specs.Find.{as_str}
use Rattle.esc_envelope.specs.GatherLaws.{IsGathered}
use Rattle.esc_pack.proofs.sources.all_texts.Given as goal

abbrev pub invariant-loop-value : goal.invariant-loop-value
invariant-loop-value l = IsGathered as_str view l.values l.value-index (map string_bytes l.texts.items)
