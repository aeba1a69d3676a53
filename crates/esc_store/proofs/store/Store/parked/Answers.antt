use Rattle.esc_store.proofs.Common.{◌∙◌, map, subst, sym, ap, if_goes, AreParked}
use Rattle.esc_store.proofs.Parking.{are_parked}
use Rattle.esc_store.proofs.Sure.{told_of}
use Rattle.esc_store.proofs.store.Store.parked.Goals as goal

pub returns-clause-digests : goal.returns-clause-digests
returns-clause-digests g c =
    λ honest k stands. if_goes c.digests_of.result _ _ c.digests_of.ensures.digests (λ digests same.
    let told = told_of c.in_ok-stored.ensures.read honest k stands in
    let are = are_parked k told.content (map (λ d. d.items) c.in_ok-stored.stored.items) told.books told.says in
    subst (AreParked k.parked) (sym (same ∙ ap (map (λ d. d.items)) c.as_slice.ensures.value)) are)
