use Rattle.std.proofs.Common.{filter_map, sym, ap, subst, ◌∙◌, IsSorted}
use Rattle.std.specs.Prelude.{IsPermutation}
use Rattle.std.specs.Ordering.{nat_cmp}
use Rattle.esc_sql.specs.Entries.{receipt_row}
use Rattle.esc_store.specs.Decoded.{AreOnce, row_if_held}
use Rattle.esc_store.proofs.Common.{if_goes}
use Rattle.esc_store.proofs.ReceiptRows.{picked_of, picked_rows}
use Rattle.esc_store.proofs.reader.held.told_rows.Goals as goal

pub returns-clause-rows : goal.returns-clause-rows
returns-clause-rows c =
    let value = c.as_slice.ensures.value in
    if_goes c.distinct_indices_of.result _ _ (c.distinct_indices_of.ensures.once
    (subst (IsSorted nat_cmp) (sym value) c.sort_unstable.ensures.sorted)) (λ rows once rs are.
    let turned = subst (λ ns. IsPermutation ns c.sort_unstable.new.self.items)
    (c.in_ok-rows.ensures.numbers ∙ picked_of receipt_row row_if_held c.args.receipts.now
    ∙ ap (filter_map row_if_held) are) c.sort_unstable.ensures.permutation in
    picked_rows rs _ rows.items turned (subst (λ ns. AreOnce ns rows.items) value once))
