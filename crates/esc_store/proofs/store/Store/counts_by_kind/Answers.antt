use Rattle.esc_store.proofs.Common.{sym, subst, if_goes, AreCounts, Represents}
use Rattle.esc_store.proofs.store.Store.counts_by_kind.Goals as goal

pub returns-in-Some-clause-counts : goal.returns-in-Some-clause-counts
unfolding Represents
returns-in-Some-clause-counts g c =
    λ honest k stands. if_goes c.by_kind.result _ _ c.by_kind.ensures.counts (λ counts is.
    subst (AreCounts k.registry.content) (sym is) (rw c.in-Some.is at (stands.remembered honest).counts))
