use Rattle.esc_sql.proofs.Calls.{map, ◌∙◌, shown_digest, if_goes, reads_back, lists_parked, read_then}
use Rattle.esc_sql.proofs.parked.parked_digests.Goals as goal

pub returns : goal.returns
returns g c = record {
  read = read_then c.in_ok-rows.ensures.read (λ db x h shows. if_goes c.read_rows.result _ _ c.read_rows.ensures
      (λ all are. lists_parked db x (map (λ d. d.items) all.items) h
      (reads_back shown_digest (λ d. d.items) _ _ all.items are (c.deref.ensures.value ∙ shows))));
}
