use Rattle.esc_envelope.proofs.Fractions.{next_digit, all_read, stays_small}
use Rattle.esc_envelope.proofs.parts.fraction_value.Goals as goal

pub loop-digit-preserved : goal.loop-digit-preserved
loop-digit-preserved c = rw c.from.ensures (next_digit c.args.digits.now c.loop-digit.digit-index
    c.loop-digit.value c.loop-digit.place c.requires c.loop-digit-test.true c.loop-digit.invariant)

pub returns-clause-value : goal.returns-clause-value
returns-clause-value c = all_read c.args.digits.now c.loop-digit.digit-index
    c.loop-digit.value c.loop-digit.place c.loop-digit-test.false c.loop-digit.invariant

pub returns-clause-small : goal.returns-clause-small
returns-clause-small c = stays_small c.args.digits.now
    c.loop-digit.digit-index c.loop-digit.value c.loop-digit.place c.loop-digit.invariant
