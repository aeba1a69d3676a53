use Rattle.esc_store.proofs.Common.{Represents}
use Rattle.esc_store.specs.StoreState.{AreUnlisted}
use Rattle.esc_store.proofs.Sure.{of_copy}
use Rattle.esc_store.proofs.store.Store.unlisted_digests.Goals as goal

pub returns-in-Some-clause-digests : goal.returns-in-Some-clause-digests
unfolding Represents
returns-in-Some-clause-digests g c = λ honest k stands. of_copy (AreUnlisted k.receipts)
    _ _ _ c.in_ok-digests.ensures c.in-Some.is (stands.remembered honest).unlisted
