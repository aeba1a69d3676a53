use Rattle.std.proofs.Common.{List, Some, All, subst}
use Rattle.esc_envelope.specs.declared.kind.Kind.{Kind}
use Rattle.esc_envelope.specs.Kinds.{kinds}
use Rattle.esc_handover.specs.PageParts.{kind_cells_text, HasKind}
use Rattle.esc_handover.proofs.Within.{within_both, each_kind}
use Rattle.esc_handover.proofs.page.objects.objects_section.Goals as goal

pub returns : goal.returns
returns c = λ k.
    let objects = c.args.objects.now in
    let counts = c.args.counts.now in
    let rows = c.kind_rows.result in
    let all : All (HasKind objects counts rows) kinds =
    subst (λ (ks : List Kind). All (HasKind objects counts rows) ks) c.all_kinds.ensures c.kind_rows.ensures in
    within_both (Some (kind_cells_text objects counts k)) rows c.section.result
    (each_kind (HasKind objects counts rows) all k)
    (within_both rows c.table-inside.result c.section.result c.table-inside.ensures c.section.ensures)
