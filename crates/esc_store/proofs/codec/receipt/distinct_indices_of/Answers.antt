use Rattle.esc_store.proofs.Common.{eqb, sym, ap, subst, ◌∙◌, dedup, AreOnce}
use Rattle.std.proofs.lemmas.List.Filters.{dedup_is}
use Rattle.esc_store.proofs.ReceiptRows.{are_once}
use Rattle.esc_store.proofs.codec.receipt.distinct_indices_of.Goals as goal

pub returns-clause-once : goal.returns-clause-once
returns-clause-once c up =
    let numbers = c.args.numbers.now in
    let found = c.in_ok-rows.rows.items in
    subst (AreOnce numbers) (sym (dedup_is eqb found c.dedup.new.self.items c.dedup.ensures.filtered
    ∙ ap (dedup eqb) c.in_ok-rows.ensures.rows)) (are_once numbers up)
