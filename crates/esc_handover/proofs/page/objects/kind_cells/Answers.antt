use Rattle.std.proofs.Common.{◌≡◌, ℕ, List, Option, Some, unwrap_or, ap₂, subst}
use Rattle.esc_handover.specs.PageParts.{IsWithin, number_of, numbers_text}
use Rattle.esc_handover.proofs.Within.{within_both, within_first, within_exact}
use Rattle.esc_handover.proofs.page.objects.kind_cells.Goals as goal

pub returns : goal.returns
returns c =
    let k = c.args.kind in
    let there : c.unwrap_or-there.result ≡ unwrap_or (number_of c.args.objects.now k) 0 = cc in
    let declared : c.number_of-declared.result ≡ number_of c.args.counts.now k = c.number_of-declared.ensures in
    let text = ap₂ (λ (n : ℕ) (o : Option ℕ). numbers_text k n o) there declared in
    let whole = c.element-2.result in
    subst (λ (t : List ℕ). IsWithin (Some t) whole) text
    (within_both _ c.number_cells.result whole (within_exact _ c.number_cells.result c.number_cells.ensures)
    (within_both c.number_cells.result c.element.result whole
    (within_first c.number_cells.result _ c.element.result c.element.ensures)
    (within_first c.element.result _ whole c.element-2.ensures)))
