use Rattle.std.proofs.Common.{List, All, subst}
use Rattle.std.proofs.lemmas.List.{take_all}
use Rattle.esc_check.specs.declared.rule.Rule.{Rule}
use Rattle.esc_handover.specs.PageParts.{HasRule}
use Rattle.esc_handover.proofs.Within.{within_first, within_second, rule_more}
use Rattle.esc_handover.proofs.page.findings.rule_tables.Goals as goal

pub loop-rule-preserved : goal.loop-rule-preserved
loop-rule-preserved c =
    let old = c.loop-rule.tables in
    let new = c.add-tables.result in
    rule_more c.args.findings.now c.args.rules.now c.loop-rule.rule-index _
    old c.findings_of.result new c.loop-rule-test.true c.loop-rule.invariant c.findings_of.ensures
    (within_first old c.findings_of.result new c.add-tables.ensures)
    (within_second old c.findings_of.result new c.add-tables.ensures)

pub returns : goal.returns
returns c = subst (λ (rules : List Rule). All (HasRule c.args.findings.now c.loop-rule.tables) rules)
    (take_all c.loop-rule.rule-index c.args.rules.now c.loop-rule-test.false) c.loop-rule.invariant
