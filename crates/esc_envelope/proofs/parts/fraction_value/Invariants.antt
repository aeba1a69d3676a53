use Rattle.esc_envelope.proofs.Fractions.{IsReadUpTo}
use Rattle.esc_envelope.proofs.parts.fraction_value.Given as goal

abbrev pub invariant-loop-digit : goal.invariant-loop-digit
invariant-loop-digit l = IsReadUpTo l.digits l.digit-index l.value l.place
