use Rattle.std.proofs.Common.{[], ℤ, subst, w64}
use Rattle.std.proofs.lemmas.Int.{to_z-of_z}
use Rattle.esc_check.specs.Verifying.{IsVerifying}
use Rattle.esc_check.proofs.walk.verify_from.Goals as goal

pub returns-clause-each : goal.returns-clause-each
returns-clause-each g c = λ honest es lists.
    c.in_ok-finish.ensures.each c.args.watermark es
    (subst (λ (w : ℤ). IsVerifying w c.in_ok-verification.verification [] es)
    (to_z-of_z w64 c.args.watermark c.ranges.watermark) (c.in_ok-verification.ensures.all honest es lists))
