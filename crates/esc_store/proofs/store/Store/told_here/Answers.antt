use Rattle.esc_store.proofs.Common.{sym, subst, ◌∙◌, IsSorted, nat_cmp, AreOnce}
use Rattle.esc_store.specs.StoreState.{AreHeldBy}
use Rattle.esc_store.proofs.ReceiptRows.{are_held_by}
use Rattle.esc_store.proofs.Sure.{as_before, remembering, told_of}
use Rattle.esc_store.proofs.store.Store.told_here.Goals as goal

pub returns-clause-rows : goal.returns-clause-rows
returns-clause-rows g c = λ honest k stands.
    let told = rw c.verdict_number.ensures at (told_of c.in_ok-rows.ensures.read honest k stands) in
    let once = c.in_ok-told.ensures.once (subst (IsSorted nat_cmp) (sym c.as_slice.ensures.value) told.says.sorted) in
    are_held_by k told.content c.in_ok-rows.rows.items c.in_ok-told.told.items told.books
    told.says (subst (λ ns. AreOnce ns c.in_ok-told.told.items) c.as_slice.ensures.value once)

pub returns-clause-same : goal.returns-clause-same
returns-clause-same g c = remembering _ (as_before c.in_ok-rows.ensures.read) (λ honest k stands so. record {
  told = subst (AreHeldBy k.receipts) (sym (c.in_ok-copy.ensures.items ∙ c.deref.ensures.value))
      (returns-clause-rows g c honest k stands);
  unlisted = so.unlisted;
  chain = so.chain;
  counts = so.counts;
})
