use Rattle.esc_sql.proofs.Calls.{◌∙◌, shown_listed, listed_row, if_goes, reads_back, read_then}
use Rattle.esc_sql.proofs.listed.all_listed.Goals as goal

pub returns : goal.returns
returns g c = record {
  read = read_then c.in_ok-rows.ensures.read (λ db x h shows. if_goes c.read_rows.result _ _ c.read_rows.ensures
      (λ all are. reads_back shown_listed listed_row x.listed _ all.items are (c.deref.ensures.value ∙ shows)));
}
