use Rattle.std.proofs.Common.{◌≡◌, List, [], ◌∷◌, ◌++◌, append_assoc, append-nil, refl, sym, ap, subst, ◌∙◌}
use Rattle.std.proofs.Common.{ℤ, w64, to_z, of_z}
use Rattle.std.proofs.lemmas.Int.{to_z-of_z}
use Rattle.esc_apply.specs.ObjectStreams.{Entry}
use Rattle.esc_check.specs.Verifying.{IsVerifying}
use Rattle.esc_check.proofs.Steps.{came}
use Rattle.esc_conformity.specs.Surveys.{IsSurveyOf}
use Rattle.esc_acceptance.specs.Guides.{IsCoverageOf}
use Rattle.esc_acceptance.proofs.surveying.survey_from.Goals as goal

pub loop-verification-init : goal.loop-verification-init
loop-verification-init g c =
    let objects = g.met.O.Objects in
    record {
      follows = objects.stays _;
      taken = λ honest whole lists. (
        [],
        whole,
        refl,
        lists,
        c.new-survey.ensures,
        c.in_ok-coverage.ensures,
        c.in_ok-verification.ensures whole (objects.in_order _ whole lists),
      );
    }

pub returns-in_err-add-clause-follows : goal.returns-in_err-add-clause-follows
returns-in_err-add-clause-follows g c =
    g.met.O.Objects.goes_on _ _ _ c.loop-verification.invariant.follows c.next.ensures.follows

pub returns-in_err-take_in-clause-follows : goal.returns-in_err-take_in-clause-follows
returns-in_err-take_in-clause-follows g c =
    g.met.O.Objects.goes_on _ _ _ c.loop-verification.invariant.follows c.next.ensures.follows

pub loop-verification-preserved : goal.loop-verification-preserved
loop-verification-preserved g c =
    let objects = g.met.O.Objects in
    record {
      follows = objects.goes_on _ _ _ c.loop-verification.invariant.follows c.next.ensures.follows;
      taken = λ honest whole lists.
          let before = c.loop-verification.invariant.taken
          (objects.was_honest _ _ c.next.ensures.follows honest) whole lists in
          let gave = came _ _ c.next.result c.map_err.result c.in_ok-key.field-0
          c.map_err.ensures.cases c.in_ok-key.was c.next.ensures.given honest before.1 before.3 in
          let one = rw c.in-Some.is at gave in
          let e : Entry = (c.in-Some.key, c.in-Some.object) in
          let is : whole ≡ before.0 ++ e ∷ one.0 = before.2 ∙ ap (λ (l : List Entry). before.0 ++ l) one.1 in
          let w = to_z w64 (of_z w64 c.args.watermark) in
          let verifying = subst (λ (l : List Entry). IsVerifying w c.loop-verification.verification l whole)
          one.1 before.6 in (
            before.0 ++ e ∷ [],
            one.0,
            is ∙ sym (append_assoc before.0 (e ∷ []) one.0),
            one.2,
            c.in_ok-add.ensures before.0 before.4,
            c.add-in-Some.ensures before.0 before.5,
            c.in_ok-take_in.ensures w one.0 whole verifying,
          );
    }

pub returns-clause-all : goal.returns-clause-all
returns-clause-all g c = λ honest whole lists.
    let objects = g.met.O.Objects in
    let before = c.loop-verification.invariant.taken
    (objects.was_honest _ _ c.next.ensures.follows honest) whole lists in
    let gave = came _ _ c.next.result c.map_err.result c.in_ok-key.field-0
    c.map_err.ensures.cases c.in_ok-key.was c.next.ensures.given honest before.1 before.3 in
    let none = rw c.in_default.is at gave in
    let all : before.0 ≡ whole =
    sym (before.2 ∙ ap (λ (l : List Entry). before.0 ++ l) none.0 ∙ append-nil before.0) in
    let w = to_z w64 (of_z w64 c.args.watermark) in
    let verified = subst (λ (z : ℤ). IsVerifying z c.loop-verification.verification [] whole)
    (to_z-of_z w64 c.args.watermark c.ranges.watermark)
    (subst (λ (l : List Entry). IsVerifying w c.loop-verification.verification l whole) none.0 before.6) in
    record {
      survey = subst (λ (l : List Entry). IsSurveyOf l c.loop-verification.survey) all before.4;
      coverage = subst (λ (l : List Entry). IsCoverageOf l c.loop-verification.coverage) all before.5;
      findings = (
        c.in_ok-findings.ensures.ordered,
        c.in_ok-findings.ensures.each c.args.watermark whole verified,
      );
    }
