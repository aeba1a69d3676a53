use Rattle.esc_store.proofs.Common.{◌≡◌, map, take}
use Rattle.esc_store.proofs.parked.digests_of.Given as goal

abbrev pub invariant-loop-bytes : goal.invariant-loop-bytes
invariant-loop-bytes l = l.digests.items ≡ map (λ d. d.items) (take l.bytes-index l.stored)
