use Rattle.std.proofs.Common.{rules, ℤ, w64, subst}
use mir.Val.{SFits}
use Rattle.std.proofs.lemmas.Int.{to_z-of_z}
use Rattle.std.proofs.lemmas.Result.{IfOk-weaker}
use Rattle.esc_acceptance.specs.Surveyed.{IsSurveyed}
use Rattle.esc_progress.specs.Watching.{watched_in}
use Rattle.esc_handover.proofs.reading.read_survey.Goals as goal

pub returns-clause-all : goal.returns-clause-all
returns-clause-all g c =
    let w = c.args.watermark in
    let fits : SFits w64 w = search rules in
    IfOk-weaker c.survey_from.result _ _ (λ surveyed all honest es lists.
    let at_end : g.O.Objects.is_honest (watched_in c.survey_from.new.objects) = search rules in
    let there : g.O.Objects.lists (watched_in c.new-watched.result) es = rw c.new-watched.ensures.same lists in
    subst (λ (z : ℤ). IsSurveyed es z c.args.counts.now.entries surveyed)
    (to_z-of_z w64 w fits) (all at_end es there)) c.survey_from.ensures.all
