use Rattle.esc_store.proofs.Common.{◌∙◌, map, ap, if_goes}
use Rattle.esc_store.proofs.Sure.{told_of}
use Rattle.esc_store.proofs.ReceiptRows.{are_of_verdict}
use Rattle.esc_store.proofs.store.Store.digests_of_verdict.Goals as goal

pub returns-clause-digests : goal.returns-clause-digests
returns-clause-digests g c =
    λ honest k stands. if_goes c.digests_of.result _ _ c.digests_of.ensures.digests (λ digests same.
    let told = rw c.verdict_number.ensures at (told_of c.in_ok-stored.ensures.read honest k stands) in
    are_of_verdict _ k told.content
    digests.items told.books (same ∙ ap (map (λ d. d.items)) c.as_slice.ensures.value ∙ told.says))
