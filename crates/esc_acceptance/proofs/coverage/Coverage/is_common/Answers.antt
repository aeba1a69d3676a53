use Rattle.std.proofs.Common.{List, Decides, subst, ◌∙◌}
use Rattle.std.specs.List.{Contains, list_all}
use Rattle.std.proofs.lemmas.Bool.Decides.{same_from_decides}
use Rattle.std.proofs.lemmas.List.Elements.{contains_decides, Decides-contains}
use Rattle.esc_acceptance.specs.declared.guide.Guide.{Guide}
use Rattle.esc_acceptance.specs.Guides.{has_guide}
use Rattle.esc_acceptance.proofs.Covered.{guides_decide, chosen_decides}
use Rattle.esc_acceptance.proofs.coverage.Coverage.is_common.Goals as goal

pub returns : goal.returns
returns c = λ es had.
    let guide = c.args.guide in
    let there = c.contains.result in
    let among = Decides-contains c.deref.result.now guide there
    (contains_decides _ guides_decide c.deref.result.now guide there c.contains.ensures.cases) in
    same_from_decides there (list_all (has_guide guide) es)
    (subst (λ (l : List Guide). Decides there (Contains l guide)) (c.deref.ensures.value ∙ had.common) among)
    (chosen_decides (λ g. list_all (has_guide g) es) guide)
