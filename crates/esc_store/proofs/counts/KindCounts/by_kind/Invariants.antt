use Rattle.esc_store.proofs.Common.{◌≡◌, take}
use Rattle.esc_store.specs.Decoded.{all_kinds, counted_of}
use Rattle.esc_store.proofs.counts.KindCounts.by_kind.Given as goal

abbrev pub invariant-loop-kind : goal.invariant-loop-kind
invariant-loop-kind l = l.counts.entries ≡ counted_of (take l.kind-index all_kinds) l.self
