use Rattle.std.proofs.Common.{◌∙◌}
use Rattle.esc_table_files.specs.Layouts.{table_lines}
use Rattle.esc_table_files.proofs.ReadBack.{lines_back, unmarked}
use Rattle.esc_table_files.proofs.laws.tables_are_read_back.Goals as goal

pub returns : goal.returns
returns c = λ l es. c.written_lines_read_back.ensures (table_lines l es) (unmarked l es) ∙ lines_back l es
