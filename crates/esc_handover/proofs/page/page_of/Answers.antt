use Rattle.esc_handover.specs.PageParts.{kind_cells_text, rule_heading_text}
use Rattle.esc_handover.proofs.Titled.{if_ok}
use Rattle.esc_handover.proofs.page.page_of.Goals as goal

pub returns-clause-kinds : goal.returns-clause-kinds
returns-clause-kinds c =
    let s = c.args.seen.now in
    if_ok _ _ c.titled.result
    (λ page has k. has (kind_cells_text s.objects s.counts k) (c.in_ok-body.ensures.kinds k)) c.titled.ensures.parts

pub returns-clause-rules : goal.returns-clause-rules
returns-clause-rules c =
    let s = c.args.seen.now in
    if_ok _ _ c.titled.result
    (λ page has rule some. has (rule_heading_text s.findings rule) (c.in_ok-body.ensures.rules rule some))
    c.titled.ensures.parts
