use Rattle.esc_store.proofs.RisingRows.{put_in}
use Rattle.esc_store.proofs.held.insert_row.Goals as goal

pub returns-in_ok-insert : goal.returns-in_ok-insert
returns-in_ok-insert c = λ up.
    put_in c.args.rows.now.items c.args.row up c.deref.result.now c.insert.new.self.items
    c.in-Err.place c.deref.ensures.value c.in-Err.ensures.position c.in_ok-insert.ensures.items
