use Rattle.serde_json.specs.View.{view}
use Rattle.esc_pack.specs.TableFiles.{source_of}
use Rattle.esc_envelope.specs.GatherLaws.{IsGathered}
use Rattle.esc_pack.proofs.sources.all_sources.Given as goal

abbrev pub invariant-loop-value : goal.invariant-loop-value
invariant-loop-value l = IsGathered source_of view l.values l.value-index l.sources.items
