use Rattle.esc_sql.proofs.Calls.{◌∙◌, sort_by, by_key, shown_kind, if_goes, numbers_are, lists_kinds, read_then}
use Rattle.esc_sql.proofs.object.object_kinds.Goals as goal

pub returns : goal.returns
returns g c = record {
  read = read_then c.in_ok-rows.ensures.read
      (λ db x h shows. if_goes c.read_rows.result _ _ c.read_rows.ensures (λ all are.
      lists_kinds db x all.items h (numbers_are
      shown_kind (sort_by by_key x.objects) _ all.items are (c.deref.ensures.value ∙ shows))));
}
