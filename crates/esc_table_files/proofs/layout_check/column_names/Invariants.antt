use Rattle.std.proofs.Common.{◌≡◌, ◌∷◌, ◌++◌, map, drop, codes, string_bytes}
use Rattle.esc_table_files.proofs.layout_check.column_names.Given as goal

-- with the columns that are left it is the whole
abbrev pub invariant-loop-column : goal.invariant-loop-column
invariant-loop-column l = map (λ n. n.now) l.names.items
    ++ map string_bytes (drop l.column-index l.columns) ≡ codes "key" ∷ map string_bytes l.columns
