use Rattle.std.proofs.Common.{◌≡◌, ◌++◌, map, drop, string_bytes}
use Rattle.std.specs.List.{filter}
use Rattle.esc_csv.specs.Lines.{text_of}
use Rattle.esc_check.specs.Export.{is_of_table}
use Rattle.esc_table_files.specs.Layouts.{row_line}
use Rattle.esc_table_files.proofs.table_text.write_rows.Given as goal

-- with the rows that are left it is the whole
abbrev pub invariant-loop-row : goal.invariant-loop-row
invariant-loop-row l = l.lines ++ text_of (map (row_line l.layout.columns l.key)
    (filter (is_of_table (string_bytes l.name)) (drop l.row-index l.object.children)))
    ≡ l.fn.lines ++ text_of (map (row_line l.layout.columns l.key)
    (filter (is_of_table (string_bytes l.name)) l.object.children))
