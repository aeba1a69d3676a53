use Rattle.std.proofs.Common.{◌≡◌}
use Rattle.esc_store.proofs.Common.{Represents}
use Rattle.esc_store.specs.StoreState.{kept_chain}
use Rattle.esc_store.proofs.Sure.{of_copy}
use Rattle.esc_store.proofs.store.Store.chain.Goals as goal

pub returns-in-Some-clause-steps : goal.returns-in-Some-clause-steps
unfolding Represents
returns-in-Some-clause-steps g c = λ honest k stands. of_copy (λ steps. steps ≡ kept_chain k)
    _ _ _ c.in_ok-steps.ensures c.in-Some.is (stands.remembered honest).chain
