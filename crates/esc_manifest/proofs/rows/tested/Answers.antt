use Rattle.std.proofs.Common.{sym, ◌∙◌}
use Rattle.esc_manifest.proofs.AcceptedRows.{no_fault_accepted}
use Rattle.esc_manifest.proofs.rows.tested.Goals as goal

pub of_accepted-requires : goal.of_accepted-requires
of_accepted-requires c = (no_fault_accepted c.args.rows.items).0
    (rw c.as_slice.ensures.value at (sym c.rows_fault.ensures ∙ c.in-None.is))
