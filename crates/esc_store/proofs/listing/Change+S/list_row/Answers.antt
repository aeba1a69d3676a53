use Rattle.esc_store.proofs.Common.{refl, if_ok}
use Rattle.esc_store.proofs.Lists.{books_listed}
use Rattle.esc_store.proofs.Parts.{registry_same, become_turns}
use Rattle.esc_store.proofs.Following.{moved, goes_step, listed_step, holds_all}
use Rattle.esc_store.proofs.listing.Change+S.list_row.Goals as goal

pub returns-clause-goes_on : goal.returns-clause-goes_on
returns-clause-goes_on g c = goes_step (moved c.settle.ensures c.insert_listed-done.ensures.part (become_turns _))

pub returns-clause-listed : goal.returns-clause-listed
returns-clause-listed g c = if_ok c.settle.result _ (λ x is before k r row_is.
    listed_step (moved c.settle.ensures c.insert_listed-done.ensures.part (become_turns _))
    (books_listed k _ r row_is) before)

pub returns-clause-holds : goal.returns-clause-holds
returns-clause-holds g c = holds_all (moved c.settle.ensures
    c.insert_listed-done.ensures.part (become_turns _)) (λ _ _ _ turn. registry_same turn.is refl refl)
