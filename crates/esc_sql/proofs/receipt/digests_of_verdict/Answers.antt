use Rattle.esc_sql.proofs.Calls.{◌∙◌, shown_digest, if_goes, reads_back, read_then}
use Rattle.esc_sql.specs.Changes.{verdict_digests}
use Rattle.esc_sql.proofs.receipt.digests_of_verdict.Goals as goal

pub returns : goal.returns
returns g c = record {
  read = read_then c.in_ok-rows.ensures.read (λ db x h shows. if_goes c.read_rows.result _ _ c.read_rows.ensures
      (λ all are. reads_back shown_digest (λ d. d.items)
      (verdict_digests _ x.receipts) _ all.items are (c.deref.ensures.value ∙ shows)));
}
