use Rattle.std.proofs.Common.{[], List, All, subst}
use Rattle.std.proofs.lemmas.List.{take_all}
use Rattle.esc_envelope.specs.declared.kind.Kind.{Kind}
use Rattle.esc_html.specs.declared.tag.Tag.TheVariants as tag
use Rattle.esc_handover.specs.PageParts.{HasKind}
use Rattle.esc_handover.proofs.Within.{within_first, within_element, kind_more}
use Rattle.esc_handover.proofs.page.objects.kind_rows.Goals as goal

pub loop-kind-preserved : goal.loop-kind-preserved
loop-kind-preserved c =
    let old = c.loop-kind.rows in
    let new = c.element-rows.result in
    kind_more c.args.objects.now c.args.counts.now c.args.kinds.now c.loop-kind.kind-index _
    old c.kind_cells.result new c.loop-kind-test.true c.loop-kind.invariant c.kind_cells.ensures
    (within_first old _ new c.element-rows.ensures)
    (within_element tag.Row [] old c.kind_cells.result new c.element-rows.ensures)

pub returns : goal.returns
returns c = subst (λ (ks : List Kind). All (HasKind c.args.objects.now c.args.counts.now c.loop-kind.rows) ks)
    (take_all c.loop-kind.kind-index c.args.kinds.now c.loop-kind-test.false) c.loop-kind.invariant
