use Rattle.std.proofs.Common.{map, ap, ◌∙◌}
use Rattle.esc_tables.specs.ObjectValue.{RowValue}
use Rattle.esc_table_files.specs.Gathering.{with_table}
use Rattle.esc_table_files.proofs.Gathered.{one_added, next_row}
use Rattle.esc_table_files.proofs.layouts.add_row_tables.Goals as goal

pub loop-row-preserved : goal.loop-row-preserved
loop-row-preserved c =
    let rows = c.args.rows.now in
    let i = c.loop-row.row-index in
    let x = c.row-item.result in
    let kind = c.args.kind in
    one_added (with_table kind) _ _ _ _ _ _ (ap (map (λ (r : RowValue). r.table))
    (next_row rows i x c.loop-row-test.true c.row-item.is)) c.loop-row.invariant
    (c.in_ok-add_table.ensures ∙ ap (with_table kind c.loop-row.layouts.items) c.table.ensures)
