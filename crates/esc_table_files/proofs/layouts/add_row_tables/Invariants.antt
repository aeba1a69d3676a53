use Rattle.std.proofs.Common.{◌≡◌, map, drop}
use Rattle.esc_table_files.specs.Gathering.{with_tables}
use Rattle.esc_table_files.proofs.layouts.add_row_tables.Given as goal

-- with the rows that are left it is the whole
abbrev pub invariant-loop-row : goal.invariant-loop-row
invariant-loop-row l = with_tables l.kind l.layouts.items (map (λ r. r.table) (drop l.row-index l.rows))
    ≡ with_tables l.kind l.fn.layouts.items (map (λ r. r.table) l.rows)
