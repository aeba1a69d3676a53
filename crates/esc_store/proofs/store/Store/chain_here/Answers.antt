use Rattle.esc_store.proofs.Common.{map, step_row, step_at, ◌∙◌, ap, Represents}
use Rattle.esc_store.proofs.Sure.{as_before, remembering, told_of}
use Rattle.esc_store.proofs.store.Store.chain_here.Goals as goal

pub returns-clause-steps : goal.returns-clause-steps
unfolding Represents
returns-clause-steps g c = λ honest k stands.
    let told = told_of c.in_ok-stored.ensures.read honest k stands in
    c.in_ok-steps.ensures.steps k.steps (ap (map step_row) c.as_slice.ensures.value
    ∙ (told.says ∙ told.books.steps)) ∙ ap (λ m. map (step_at m) k.steps)
    (c.steps_here.ensures.read.manifest ∙ stands.listed)

pub returns-clause-same : goal.returns-clause-same
returns-clause-same g c = remembering _ (as_before c.in_ok-stored.ensures.read) (λ honest k stands so. record {
  told = so.told;
  unlisted = so.unlisted;
  chain = c.in_ok-copy.ensures.items ∙ c.deref.ensures.value ∙ returns-clause-steps g c honest k stands;
  counts = so.counts;
})
