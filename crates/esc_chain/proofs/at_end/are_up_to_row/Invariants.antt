use Rattle.std.proofs.Common.{ℕ, ◌<◌}
use Rattle.std.specs.Prelude.{slice_index}
use Rattle.esc_chain.specs.AtEnd.{IsUpToRow}
use Rattle.esc_chain.proofs.at_end.are_up_to_row.Given as goal

abbrev pub invariant-loop-other : goal.invariant-loop-other
invariant-loop-other l = (k : ℕ) → k < l.other-index → IsUpToRow l.listed l.row (slice_index l.rows k)
