use Rattle.std.proofs.Common.{◌<◌, List, [], length, get_or, ap, rules}
use Rattle.esc_table_files.proofs.Zipped.{one_more, all_done}
use Rattle.esc_table_files.proofs.table_writer.write_object.Goals as goal

pub loop-writer-init : goal.loop-writer-init
loop-writer-init g c = ([], c.deref_mut-writer-items.ensures.value, tt)

pub loop-writer-preserved : goal.loop-writer-preserved
loop-writer-preserved g c =
    let before = c.args.writers.now.items in
    let items = c.loop-writer.writer-items in
    let i = c.loop-writer.writer-index in
    let within : i < length before = search rules in
    one_more _ before items i (get_or items i c.writer-item.result)
    c.write_rows.new.self within c.loop-writer.invariant (ap (get_or items i) c.writer-item.is)
    (c.write_rows.ensures.table, c.in_ok-write_rows.ensures.text)
