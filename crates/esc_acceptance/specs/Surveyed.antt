-- What is asked of all objects of a registry.
use Rattle.std.specs.Prelude.{ℕ, ℤ, List}
use Rattle.esc_envelope.specs.declared.kind.Kind.{Kind}
use Rattle.esc_apply.specs.ObjectStreams.{Entry}
use Rattle.esc_check.specs.Verifying.{AreAllFindings}
use Rattle.esc_conformity.specs.Surveys.{IsSurveyOf}
use Rattle.esc_acceptance.specs.declared.surveying.Surveyed.{Surveyed}
use Rattle.esc_acceptance.specs.Guides.{IsCoverageOf}

-- all of these objects were surveyed, and verified by a watermark and the declared numbers
pub record IsSurveyed (es : List Entry) (w : ℤ) (counts : List (Kind × ℕ)) (s : Surveyed)
    : Type 0 where
  pub survey : IsSurveyOf es s.survey
  pub coverage : IsCoverageOf es s.coverage
  pub findings : AreAllFindings es w counts s.findings.items
