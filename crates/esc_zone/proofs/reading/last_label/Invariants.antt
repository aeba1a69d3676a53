use Rattle.std.proofs.Common.{◌≡◌, length}
use Rattle.esc_zone.specs.Names.{last_label}
use Rattle.esc_zone.proofs.reading.last_label.Given as goal

abbrev pub invariant-loop-after : goal.invariant-loop-after
invariant-loop-after l = last_label l.rest ≡ last_label l.text

abbrev pub decreases-loop-after : goal.decreases-loop-after
decreases-loop-after l = length l.rest
