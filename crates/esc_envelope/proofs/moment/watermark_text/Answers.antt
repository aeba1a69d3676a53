use Rattle.std.proofs.Common.{refl, sym, arith, FitsSigned, w64}
use Rattle.std.proofs.lemmas.Int.{to_z-of_z, ints}
use Rattle.esc_envelope.specs.Watermark.{IsInYears}
use Rattle.esc_envelope.proofs.Shown.{not_shown}
use Rattle.esc_envelope.proofs.moment.watermark_text.Goals as goal
use Rattle.esc_envelope.proofs.moment.watermark_text.Goals.{then-watermark-lt0-via-then-watermark-lt0}
use Rattle.esc_envelope.proofs.moment.watermark_text.Goals.{then-watermark-lt0-via-else-watermark-lt0+then-watermark-ge-END_OF_YEARS}

pub returns-then-watermark-lt0 : goal.returns-then-watermark-lt0
returns-then-watermark-lt0 c =
    let fits : FitsSigned w64 c.args.watermark = c.ranges.watermark in
    let none = not_shown c.args.watermark (λ years. elim c.then-watermark-lt0.branch [
      | then-watermark-lt0-via-then-watermark-lt0 w ↦ let low =
          simp to_z-of_z at w.if-watermark-lt0.true in omega (arith, ints, low)
      | then-watermark-lt0-via-else-watermark-lt0+then-watermark-ge-END_OF_YEARS w ↦ let high =
          simp to_z-of_z at w.if-watermark-ge-END_OF_YEARS.true in omega (arith, ints, high)
    ]) in
    record { text = none; outside = λ never. refl }

pub returns : goal.returns
returns c =
    let fits : FitsSigned w64 c.args.watermark = c.ranges.watermark in
    let low = simp to_z-of_z at c.if-watermark-lt0.false in
    let high = simp to_z-of_z at c.if-watermark-ge-END_OF_YEARS.false in
    let text = simp to_z-of_z at c.in_ok-text.ensures.text in
    let years : IsInYears c.args.watermark = (omega (arith, ints, low), omega (arith, ints, high)) in
    record {
      text = sym text;
      outside = λ never. absurd (never years);
    }
