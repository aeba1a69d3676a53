use Rattle.std.proofs.Common.{List, Some, All, subst}
use Rattle.esc_check.specs.declared.rule.Rule.{Rule}
use Rattle.esc_handover.specs.PageParts.{page_rules, rule_heading_text, HasRule}
use Rattle.esc_handover.proofs.Within.{within_both, within_first, each_rule}
use Rattle.esc_handover.proofs.page.findings.findings_section.Goals as goal

pub returns : goal.returns
returns c = λ rule some.
    let findings = c.args.findings.now in
    let tables = c.rule_tables.result in
    let inside = c.add-inside.result in
    let all : All (HasRule findings tables) page_rules =
    subst (λ (rules : List Rule). All (HasRule findings tables) rules) c.all_rules.ensures c.rule_tables.ensures in
    within_both (Some (rule_heading_text findings rule)) tables c.section.result
    (each_rule (HasRule findings tables) all rule some)
    (within_both tables inside c.section.result
    (within_first tables c.none_found.result inside c.add-inside.ensures) c.section.ensures)
