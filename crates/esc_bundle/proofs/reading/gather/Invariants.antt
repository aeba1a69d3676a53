use Rattle.std.proofs.Common.{◌-◌, length}
use Rattle.esc_bundle.proofs.Gathering.{Gathered}
use Rattle.esc_bundle.proofs.reading.gather.Given as goal

abbrev pub invariant-loop-found : goal.invariant-loop-found
invariant-loop-found l = Gathered l.fn.text l.found.items l.rest

-- the sections that may still come
abbrev pub decreases-loop-found : goal.decreases-loop-found
decreases-loop-found l = 65 - length l.found.items
