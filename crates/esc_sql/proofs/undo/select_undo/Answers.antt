use Rattle.esc_sql.proofs.Calls.{map, ◌∙◌, sort_by, filter, image_entry, by_image, shown_image_entry}
use Rattle.esc_sql.proofs.Calls.{if_goes, reads_each, read_then, lists_images, of_step}
use Rattle.esc_sql.specs.Entries.{stored_image}
use Rattle.esc_sql.proofs.undo.select_undo.Goals as goal

pub returns : goal.returns
returns g c = record {
  read = read_then c.in_ok-rows.ensures.read
      (λ db x h shows. if_goes c.read_rows.result _ _ c.read_rows.ensures (λ all are.
      lists_images db c.args.at x (map stored_image all.items) h
      (reads_each shown_image_entry stored_image image_entry (sort_by by_image
      (filter (of_step c.args.at) x.undo)) _ all.items are (c.deref.ensures.value ∙ shows))));
}
