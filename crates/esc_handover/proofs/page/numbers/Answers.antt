use Rattle.std.proofs.Common.{Some, subst}
use Rattle.esc_acceptance.specs.Acceptance.{SeenValue}
use Rattle.esc_handover.specs.PageParts.{kind_cells_text, HasKind, rule_heading_text, HasRule}
use Rattle.esc_handover.proofs.Within.{within_both, within_first, within_second}
use Rattle.esc_handover.proofs.page.numbers.Goals as goal

pub returns-clause-kinds : goal.returns-clause-kinds
returns-clause-kinds c = λ k.
    let s = c.args.seen.now in
    let objects = c.objects_section.result in
    let told = subst (λ (t : SeenValue). HasKind t.objects t.counts objects k)
    c.seen.view_is (c.objects_section.ensures k) in
    within_both (Some (kind_cells_text s.objects s.counts k)) objects c.add.result told
    (within_first objects c.findings_section.result c.add.result c.add.ensures)

pub returns-clause-rules : goal.returns-clause-rules
returns-clause-rules c = λ rule some.
    let s = c.args.seen.now in
    let findings = c.findings_section.result in
    let told = subst (λ (t : SeenValue). HasRule t.findings findings rule)
    c.seen.view_is (c.findings_section.ensures rule) some in
    within_both (Some (rule_heading_text s.findings rule)) findings c.add.result told
    (within_second c.objects_section.result findings c.add.result c.add.ensures)
