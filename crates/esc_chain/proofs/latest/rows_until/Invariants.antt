use Rattle.esc_chain.proofs.Moments.{IsUntilBelow}
use Rattle.esc_chain.proofs.latest.rows_until.Given as goal

abbrev pub invariant-loop-row : goal.invariant-loop-row
invariant-loop-row l = IsUntilBelow l.manifest l.held l.moment l.row l.until
