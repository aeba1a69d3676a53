use Rattle.esc_sql.proofs.Calls.{filter, map, take, ◌∙◌, take-map, sort_by, object_entry, by_key}
use Rattle.esc_sql.proofs.Calls.{is_kind_from, shown_entry, stored_entry, if_goes, reads_each}
use Rattle.esc_sql.proofs.Calls.{shown_object, read_then, lists_from}
use Rattle.esc_sql.proofs.page.objects_from.Goals as goal

pub returns : goal.returns
returns g c = record {
  read = read_then c.in_ok-rows.ensures.read (λ db x h shows.
      let sorted = sort_by by_key (filter (is_kind_from c.args.kind c.args.from.now) x.objects) in
      if_goes c.read_rows.result _ _ c.read_rows.ensures (λ all are.
      lists_from c.args.kind c.args.from.now db x h (map stored_entry all.items)
      (reads_each shown_entry stored_entry object_entry (take 256 sorted)
      _ all.items are (c.deref.ensures.value ∙ shows ∙ take-map shown_object 256 sorted))));
}
