use Rattle.esc_store.proofs.Common.{◌∙◌, ap, tallies}
use Rattle.esc_store.proofs.Counting.{are_counts}
use Rattle.esc_store.proofs.Sure.{as_before, remembering, told_of}
use Rattle.esc_store.proofs.store.Store.count_here.Goals as goal

pub returns-clause-counts : goal.returns-clause-counts
returns-clause-counts g c = λ honest k stands.
    let told = told_of c.in_ok-kinds.ensures.read honest k stands in
    are_counts told.content k.registry
    _ _ told.registry told.says (c.counts_of-counts.ensures ∙ ap tallies c.as_slice.ensures.value)

pub returns-clause-same : goal.returns-clause-same
returns-clause-same g c = remembering _ (as_before c.in_ok-kinds.ensures.read) (λ honest k stands so. record {
  told = so.told;
  unlisted = so.unlisted;
  chain = so.chain;
  counts = returns-clause-counts g c honest k stands;
})
