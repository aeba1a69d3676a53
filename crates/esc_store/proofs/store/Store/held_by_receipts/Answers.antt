use Rattle.esc_store.proofs.Common.{Represents}
use Rattle.esc_store.specs.StoreState.{AreHeldBy}
use Rattle.esc_store.proofs.Sure.{of_copy}
use Rattle.esc_store.proofs.store.Store.held_by_receipts.Goals as goal

pub returns-in-Some-clause-rows : goal.returns-in-Some-clause-rows
unfolding Represents
returns-in-Some-clause-rows g c = λ honest k stands. of_copy (AreHeldBy k.receipts)
    _ _ _ c.in_ok-rows.ensures c.in-Some.is (stands.remembered honest).told
