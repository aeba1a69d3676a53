use Rattle.esc_sql.proofs.Calls.{ap, ◌∙◌, length-map, bound, new_image, makes, puts_images}
use Rattle.esc_sql.proofs.undo.insert_images.Goals as goal

pub returns : goal.returns
returns g c = record {
  part = makes g.S.Store (puts_images _ _ (length-map c.args.rows.now new_image ∙ c.requires)) c.write_within.ensures
      (ap bound c.as_slice.ensures.value ∙ c.in_ok-params.ensures.params);
}
