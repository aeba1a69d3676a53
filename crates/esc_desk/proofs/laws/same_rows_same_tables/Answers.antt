use Rattle.esc_desk.proofs.SameRows.{same_tables}
use Rattle.esc_desk.proofs.laws.same_rows_same_tables.Goals as goal

pub returns : goal.returns
returns c = same_tables c.chains_are_of_rows.ensures
