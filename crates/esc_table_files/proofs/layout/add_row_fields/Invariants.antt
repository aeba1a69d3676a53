use Rattle.std.proofs.Common.{◌≡◌, map, drop, string_bytes}
use Rattle.esc_table_files.specs.Layouts.{row_fields}
use Rattle.esc_table_files.specs.Gathering.{with_names}
use Rattle.esc_table_files.proofs.layout.add_row_fields.Given as goal

-- with the cells that are left it is the whole
abbrev pub invariant-loop-at : goal.invariant-loop-at
invariant-loop-at l = with_names (map string_bytes l.columns.items) (map (λ c. c.0) (drop l.at l.row.cells))
    ≡ with_names (map string_bytes l.fn.columns.items) (row_fields l.row)
