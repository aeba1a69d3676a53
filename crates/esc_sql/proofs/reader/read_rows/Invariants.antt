use Rattle.esc_sql.proofs.Common.{take, AreRead}
use Rattle.esc_sql.proofs.reader.read_rows.Given as goal

abbrev pub invariant-loop-at : goal.invariant-loop-at
invariant-loop-at g l = AreRead g.T.FromRow.is_read (take l.at l.rows) l.all.items
