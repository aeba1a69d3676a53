use Rattle.std.proofs.Common.{◌-◌, ◌≤◌, length}
use Rattle.esc_pack.proofs.envelope_spot.first_refused.Given as goal

-- the search is within the tables
abbrev pub invariant-loop-refused : goal.invariant-loop-refused
invariant-loop-refused l = record { rising : l.read ≤ l.refused; within : l.refused ≤ length l.tables }

abbrev pub decreases-loop-refused : goal.decreases-loop-refused
decreases-loop-refused l = l.refused - l.read
