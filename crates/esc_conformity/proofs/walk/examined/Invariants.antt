use Rattle.std.proofs.Common.{◌≡◌, ◌++◌, List}
use Rattle.std.specs.Prelude.{option_map}
use Rattle.esc_apply.specs.ObjectStreams.{Entry}
use Rattle.esc_conformity.specs.Examined.{HasExamined}
use Rattle.esc_conformity.specs.Surveys.{IsSurveyOf}
use Rattle.esc_conformity.proofs.walk.examined.Given as goal

-- all objects but those that are left were examined
abbrev pub invariant-loop-examiner : goal.invariant-loop-examiner
invariant-loop-examiner g l =
    let objects = g.O.Objects in
    record {
      follows : objects.follows l.fn.objects l.objects;
      examined : objects.is_honest l.objects → (whole : List Entry)
          → objects.lists l.fn.objects whole → IsSurveyOf whole l.registry.survey.now
          → (es : List Entry) × (left : List Entry) × (whole ≡ es ++ left) × objects.lists l.objects left
          × HasExamined (option_map (λ t. t.now) l.registry.tld) whole l.registry.survey.now es l.examiner;
    }

abbrev pub decreases-loop-examiner : goal.decreases-loop-examiner
decreases-loop-examiner g l = g.O.Objects.bound l.objects
