use Rattle.serde_json.specs.View.{view}
use Rattle.esc_envelope.proofs.CountLoop.{AreCounted}
use Rattle.esc_envelope.proofs.counts.counts_in.Given as goal

abbrev pub invariant-loop-kind : goal.invariant-loop-kind
invariant-loop-kind l = AreCounted (view l.counts) l.kind-items l.kind-index l.found.entries
