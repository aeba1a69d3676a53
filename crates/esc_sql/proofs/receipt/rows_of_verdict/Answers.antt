use Rattle.esc_sql.proofs.Calls.{map, ap, ◌∙◌, first_of, if_goes, reads_numbers, read_then, lists_rows}
use Rattle.esc_sql.proofs.receipt.rows_of_verdict.Goals as goal

pub returns : goal.returns
returns g c = record {
  read = read_then c.in_ok-rows.ensures.read (λ db x h shows. if_goes c.read_rows.result _ _ c.read_rows.ensures
      (λ all are. lists_rows c.args.verdict x c.in_ok-rows.rows.items all.items shows
      (reads_numbers _ all.items are ∙ ap (map first_of) c.deref.ensures.value)));
}
