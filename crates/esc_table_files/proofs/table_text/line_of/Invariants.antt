use Rattle.std.proofs.Common.{◌≡◌, ◌++◌, map, drop, string_bytes}
use Rattle.esc_check.specs.Fields.{cell}
use Rattle.esc_table_files.specs.Layouts.{row_line}
use Rattle.esc_table_files.proofs.table_text.line_of.Given as goal

-- with the columns that are left it is the whole
abbrev pub invariant-loop-column : goal.invariant-loop-column
invariant-loop-column l = map (λ f. f.now) l.line.items
    ++ map (λ f. cell f l.row) (map string_bytes (drop l.column-index l.columns))
    ≡ row_line (map string_bytes l.columns) l.key l.row
