use Rattle.std.proofs.Common.{◌≡◌, map, drop, string_bytes}
use Rattle.std.specs.List.{filter, flat_map}
use Rattle.esc_check.specs.Export.{is_of_table}
use Rattle.esc_table_files.specs.Layouts.{row_fields}
use Rattle.esc_table_files.specs.Gathering.{with_names}
use Rattle.esc_table_files.proofs.layout.add_child_fields.Given as goal

-- with the rows that are left it is the whole
abbrev pub invariant-loop-row : goal.invariant-loop-row
invariant-loop-row l = with_names (map string_bytes l.columns.items)
    (flat_map row_fields (filter (is_of_table l.name) (drop l.row-index l.rows)))
    ≡ with_names (map string_bytes l.fn.columns.items) (flat_map row_fields (filter (is_of_table l.name) l.rows))
