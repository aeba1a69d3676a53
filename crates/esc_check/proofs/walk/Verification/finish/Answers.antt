use Rattle.std.proofs.Common.{List, ◌++◌, map, sym, ap, subst, ◌∙◌}
use Rattle.std.specs.Prelude.{◌↔◌}
use Rattle.std.specs.List.{Contains, flat_map}
use Rattle.esc_check.specs.Counted.{came_of}
use Rattle.esc_check.specs.FindingValue.{FindingValue}
use Rattle.esc_check.specs.Findings.{IsFinding, missing_target}
use Rattle.esc_check.specs.Gathered.{number_findings}
use Rattle.esc_check.specs.LinkValue.{LinkValue}
use Rattle.esc_check.specs.TableMap.{content_of_entries}
use Rattle.esc_check.proofs.ListingLaws.{in_order}
use Rattle.esc_check.proofs.WalkLaws.{walked_found}
use Rattle.esc_check.proofs.walk.Verification.finish.Goals as goal

pub returns-clause-each : goal.returns-clause-each
returns-clause-each c = λ w es verified.
    let v = c.args.self in
    let counts = c.args.counts.now.entries in
    let missing = c.in_ok-add_all_missing.ensures ∙ ap (λ (ls : List LinkValue). v.found.items
    ++ map missing_target ls) (c.deref.ensures.value ∙ c.unmet.ensures) in
    let all = c.in_ok-check_came.ensures
    ∙ ap (λ (l : List FindingValue). l ++ flat_map (number_findings (came_of v.came)) counts) missing in
    let are = walked_found w v es counts c.check_came.new.found.items c.settle.result.items
    verified.order verified.leads all c.settle.ensures.same in
    let strict = in_order es w counts c.settle.result.items verified.order are c.settle.ensures.ordered in
    λ f. subst (λ (l : List FindingValue). Contains l f ↔ IsFinding (content_of_entries es) w counts f)
    (sym (c.listed.ensures.same strict)) (are f)
