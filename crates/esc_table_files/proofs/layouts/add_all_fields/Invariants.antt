use Rattle.std.proofs.Common.{◌≡◌, ◌++◌, map, take, drop}
use Rattle.esc_table_files.specs.Gathering.{with_fields}
use Rattle.esc_table_files.proofs.layouts.add_all_fields.Given as goal

-- those so far are changed, and those that are left are as they were
abbrev pub invariant-loop-layout : goal.invariant-loop-layout
invariant-loop-layout l = l.layout-items
    ≡ map (with_fields (l.key, l.object)) (take l.layout-index l.fn.layouts.items)
    ++ drop l.layout-index l.fn.layouts.items
