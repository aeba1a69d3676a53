use Rattle.esc_store.proofs.Common.{◌∙◌, ◌++◌, List, ℕ, ap, sym, subst}
use Rattle.esc_store.specs.StoreState.{AreUnlisted}
use Rattle.esc_store.specs.StandingLaws.{as_before_then, was_honest}
use Rattle.esc_store.proofs.ReceiptRows.{are_unlisted}
use Rattle.esc_store.proofs.Sure.{remembering}
use Rattle.esc_store.proofs.store.Store.unlisted_here.Goals as goal

pub returns-clause-digests : goal.returns-clause-digests
returns-clause-digests g c = λ honest k stands.
    let clean = was_honest c.digests_of_verdict-2.ensures.same honest in
    let firsts : List (List ℕ) = c.in_ok-digests.digests.items in
    are_unlisted k.receipts firsts c.in_ok-parked.parked.items _ (c.in_ok-digests.ensures.digests clean k stands)
    (c.in_ok-parked.ensures.digests honest k (c.digests_of_verdict.ensures.same.stands k stands))
    (c.in_ok-extend_from_slice.ensures.items ∙ ap (λ ds. firsts ++ ds) c.as_slice.ensures.value)

pub returns-clause-same : goal.returns-clause-same
returns-clause-same g c = remembering _ (as_before_then c.digests_of_verdict.ensures.same
    c.digests_of_verdict-2.ensures.same) (λ honest k stands so. record {
      told = so.told;
      unlisted = subst (AreUnlisted k.receipts) (sym (c.in_ok-copy.ensures.items ∙ c.deref.ensures.value))
          (returns-clause-digests g c honest k stands);
      chain = so.chain;
      counts = so.counts;
    })
