use Rattle.std.proofs.Common.{rules, ℤ, w64, subst}
use mir.Val.{SFits}
use Rattle.std.proofs.lemmas.Int.{to_z-of_z}
use Rattle.std.proofs.lemmas.Result.{IfOk-weaker}
use Rattle.esc_check.specs.Verifying.{AreAllFindings}
use Rattle.esc_inspection.proofs.surveying.surveyed_at.Goals as goal

pub returns-in-Some-clause-all : goal.returns-in-Some-clause-all
returns-in-Some-clause-all g c = λ clean e serves.
    let end = c.in-Some.end in
    let fits : SFits w64 end.watermark = search rules in
    IfOk-weaker c.surveyed_by.result _ _ (λ surveyed all apart es tables ordered.
    let found = all apart es tables ordered in (
      found.survey,
      found.coverage,
      rw c.in-Some.is (subst (λ (z : ℤ). AreAllFindings es z end.counts.entries surveyed.findings.items)
          (to_z-of_z w64 end.watermark fits) found.findings),
    )) (c.surveyed_by.ensures.all clean e serves)

pub returns-in_ok-surveyed-in-None-clause-all : goal.returns-in_ok-surveyed-in-None-clause-all
returns-in_ok-surveyed-in-None-clause-all g c = λ clean e serves apart es tables ordered.
    let found = c.in_ok-surveyed-in-None.ensures.all clean e serves apart es tables ordered in (
      found.survey,
      found.coverage,
      rw c.in-None.is c.clear.ensures.items,
    )
