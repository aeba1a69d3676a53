use Rattle.esc_store.proofs.Common.{◌≡◌, map, take}
use Rattle.esc_store.specs.Reading.{parked_read}
use Rattle.esc_store.proofs.reader.bodies.bodies_of.Given as goal

abbrev pub invariant-loop-it : goal.invariant-loop-it
invariant-loop-it l = l.bodies.items ≡ map parked_read (take l.it-index l.parked)
