use Rattle.std.proofs.Common.{◌≡◌, List, [], ◌∷◌, ◌++◌, append_assoc, append-nil, refl, sym, ap, subst, ◌∙◌}
use Rattle.std.specs.Prelude.{option_map}
use Rattle.esc_apply.specs.ObjectStreams.{Entry, InOrder}
use Rattle.esc_check.proofs.Steps.{came}
use Rattle.esc_conformity.specs.Examined.{HasExamined}
use Rattle.esc_conformity.specs.Surveys.{IsSurveyOf}
use Rattle.esc_conformity.proofs.walk.examined.Goals as goal

pub loop-examiner-init : goal.loop-examiner-init
loop-examiner-init g c = record {
  follows = g.met.O.Objects.stays _;
  examined = λ honest whole lists survey. ([], whole, refl, lists, c.new-examiner.ensures _ whole _);
}

pub returns-in_err-add-clause-follows : goal.returns-in_err-add-clause-follows
returns-in_err-add-clause-follows g c =
    g.met.O.Objects.goes_on _ _ _ c.loop-examiner.invariant.follows c.next.ensures.follows

pub loop-examiner-preserved : goal.loop-examiner-preserved
loop-examiner-preserved g c =
    let objects = g.met.O.Objects in
    record {
      follows = objects.goes_on _ _ _ c.loop-examiner.invariant.follows c.next.ensures.follows;
      examined = λ honest whole lists survey.
          let tld = option_map (λ t. t.now) c.args.registry.now.tld in
          let known = c.args.registry.now.survey.now in
          let before = c.loop-examiner.invariant.examined
          (objects.was_honest _ _ c.next.ensures.follows honest) whole lists survey in
          let gave = came _ _ c.next.result c.map_err.result c.in_ok-key.field-0
          c.map_err.ensures.cases c.in_ok-key.was c.next.ensures.given honest before.1 before.3 in
          let one = rw c.in-Some.is at gave in
          let e : Entry = (c.in-Some.key, c.in-Some.object) in
          let is : whole ≡ before.0 ++ e ∷ one.0 = before.2 ∙ ap (λ (l : List Entry). before.0 ++ l) one.1 in
          let done = c.in_ok-add.ensures before.0 one.0 (subst InOrder is (objects.in_order _ whole lists))
          (subst (λ (l : List Entry). IsSurveyOf l known) is survey)
          (subst (λ (l : List Entry). HasExamined tld l known before.0 c.loop-examiner.examiner) is before.4) in (
            before.0 ++ e ∷ [],
            one.0,
            is ∙ sym (append_assoc before.0 (e ∷ []) one.0),
            one.2,
            subst (λ (l : List Entry). HasExamined tld l known (before.0 ++ e ∷ []) c.add.new.self) (sym is) done,
          );
    }

pub returns-clause-all : goal.returns-clause-all
returns-clause-all g c = λ honest whole lists survey.
    let objects = g.met.O.Objects in
    let before = c.loop-examiner.invariant.examined
    (objects.was_honest _ _ c.next.ensures.follows honest) whole lists survey in
    let gave = came _ _ c.next.result c.map_err.result c.in_ok-key.field-0
    c.map_err.ensures.cases c.in_ok-key.was c.next.ensures.given honest before.1 before.3 in
    let none = rw c.in_default.is at gave in
    subst (λ (l : List Entry). HasExamined (option_map (λ t. t.now) c.args.registry.now.tld) whole
    c.args.registry.now.survey.now l c.loop-examiner.examiner)
    (sym (before.2 ∙ ap (λ (l : List Entry). before.0 ++ l) none.0 ∙ append-nil before.0)) before.4
