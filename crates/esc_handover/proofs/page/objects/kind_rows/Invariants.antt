use Rattle.std.proofs.Common.{take, All}
use Rattle.esc_handover.specs.PageParts.{HasKind}
use Rattle.esc_handover.proofs.page.objects.kind_rows.Given as goal

-- the cells of each kind so far are in the rows
abbrev pub invariant-loop-kind : goal.invariant-loop-kind
invariant-loop-kind l = All (HasKind l.objects l.counts l.rows) (take l.kind-index l.kinds)
