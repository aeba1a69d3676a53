use Rattle.esc_envelope.proofs.Distinct.{AreSeen}
use Rattle.esc_envelope.proofs.tables.have_distinct_names.Given as goal

abbrev pub invariant-loop-table : goal.invariant-loop-table
invariant-loop-table l = AreSeen (λ t. t.name) l.tables l.table-index l.names
