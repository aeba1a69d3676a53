use Rattle.esc_zone.proofs.Numbers.{refused_number}
use Rattle.esc_zone.proofs.signer.number.Goals as goal

pub returns-in_default-2 : goal.returns-in_default-2
returns-in_default-2 c = λ y h.
    refused_number c.args.text.now c.in_default.field-0 c.args.most y c.in_default.ensures.value.0 c.ranges.most.fits h
