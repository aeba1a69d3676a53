use Rattle.std.proofs.Common.{◌≡◌, map, take, filter}
use Rattle.std.specs.Prelude.{not}
use Rattle.esc_tables.specs.Reading.{by_name}
use Rattle.esc_tables.proofs.order.child_tables.Given as goal

abbrev pub invariant-loop-table : goal.invariant-loop-table
invariant-loop-table l =
    map (λ t. t.now) l.sorted.items ≡ by_name (filter (λ t. not t.parent) (take l.table-index l.tables))
