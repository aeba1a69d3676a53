use Rattle.std.proofs.Common.{◌∙◌, sym}
use Rattle.esc_zone.proofs.Above.{label_after, label_here}
use Rattle.esc_zone.proofs.reading.last_label.Goals as goal

pub loop-after-preserved : goal.loop-after-preserved
loop-after-preserved c =
    sym (label_after c.loop-after.rest.now c.in-Some.after.now c.in-Some.ensures.rest) ∙ c.loop-after.invariant

pub returns : goal.returns
returns c = label_here c.loop-after.rest.now c.in_default.ensures.rest ∙ c.loop-after.invariant
