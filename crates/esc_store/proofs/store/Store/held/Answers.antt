use Rattle.std.proofs.Common.{List, ℕ, subst}
use Rattle.esc_store.specs.StandingLaws.{was_honest}
use Rattle.esc_store.specs.Holding.{AreFound}
use Rattle.esc_store.proofs.FoundRows.{held_of_found}
use Rattle.std.specs.Prelude.{IfOk}
use Rattle.esc_store.proofs.Common.{if_goes}
use Rattle.esc_store.proofs.store.Store.held.Goals as goal

pub returns-clause-rows : goal.returns-clause-rows
returns-clause-rows g c = λ clean k stood has.
    let by_digests = was_honest c.with_found.ensures.same clean in
    let by_receipts = was_honest c.unlisted_digests.ensures.same by_digests in
    let still = c.held_by_receipts.ensures.same.stands k stood in
    let told = c.in_ok-told.ensures.rows by_receipts k stood in
    let digests = c.in_ok-digests.ensures.digests by_digests k still in
    if_goes c.with_found.result _ _ (c.with_found.ensures.found
    clean k (c.unlisted_digests.ensures.same.stands k still) told.rising) (λ rows found.
    held_of_found k has c.in_ok-digests.digests.items digests c.in_ok-told.told.items rows.items told
    (subst (λ (ds : List (List ℕ)). AreFound k c.in_ok-told.told.items ds rows.items) c.deref.ensures.value found))
