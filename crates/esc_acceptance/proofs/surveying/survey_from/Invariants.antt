use Rattle.std.proofs.Common.{◌≡◌, ◌++◌, List}
use Rattle.esc_apply.specs.ObjectStreams.{Entry}
use Rattle.esc_check.specs.Verifying.{IsVerifying}
use Rattle.esc_conformity.specs.Surveys.{IsSurveyOf}
use Rattle.esc_acceptance.specs.Guides.{IsCoverageOf}
use Rattle.esc_acceptance.proofs.surveying.survey_from.Given as goal

-- all objects but those that are left were taken in
abbrev pub invariant-loop-verification : goal.invariant-loop-verification
invariant-loop-verification g l =
    let objects = g.O.Objects in
    record {
      follows : objects.follows l.fn.objects l.objects;
      taken : objects.is_honest l.objects → (whole : List Entry) → objects.lists l.fn.objects whole
          → (es : List Entry) × (left : List Entry) × (whole ≡ es ++ left) × objects.lists l.objects left
          × IsSurveyOf es l.survey × IsCoverageOf es l.coverage
          × IsVerifying l.watermark l.verification left whole;
    }

abbrev pub decreases-loop-verification : goal.decreases-loop-verification
decreases-loop-verification g l = g.O.Objects.bound l.objects
