use Rattle.std.proofs.Common.{Some}
use Rattle.esc_handover.specs.PageParts.{IsWithin, kind_cells_text, rule_heading_text}
use Rattle.esc_handover.proofs.Within.{within_both, within_first, within_second}
use Rattle.esc_handover.proofs.page.body_of.Goals as goal

pub returns : goal.returns
returns c =
    let s = c.args.seen.now in
    let numbers = c.numbers.result in
    let sections = c.add-sections.result in
    let whole = c.around.result in
    let there : IsWithin numbers whole =
    within_both numbers sections whole
    (within_both numbers c.add-shown.result sections
    (within_second c.add-before.result numbers c.add-shown.result c.add-shown.ensures)
    (within_first c.add-shown.result c.add-after.result sections c.add-sections.ensures))
    c.around.ensures in
    record {
      kinds = λ k. within_both (Some (kind_cells_text s.objects s.counts k)) numbers whole (c.numbers.ensures.kinds k)
          there;
      rules = λ rule some. within_both (Some (rule_heading_text s.findings rule)) numbers whole
          (c.numbers.ensures.rules rule some) there;
    }
