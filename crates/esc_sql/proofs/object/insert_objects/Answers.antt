use Rattle.esc_sql.proofs.Calls.{ap, ◌∙◌, length-map, bound, new_entry, makes, inserts_objects}
use Rattle.esc_sql.proofs.object.insert_objects.Goals as goal

pub returns : goal.returns
returns g c = record {
  part = makes g.S.Store (inserts_objects _ (length-map c.args.rows.now new_entry ∙ c.requires))
      c.write_within.ensures
      (ap bound c.as_slice.ensures.value ∙ c.in_ok-params.ensures.params);
}
