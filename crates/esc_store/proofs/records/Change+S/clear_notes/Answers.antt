use Rattle.esc_store.proofs.Common.{None, refl, if_ok}
use Rattle.esc_store.proofs.Registries.{books_stay, images_then, moved, follows_step, holds_step, become_turns}
use Rattle.esc_store.proofs.records.Change+S.clear_notes.Goals as goal

pub returns-clause-follows : goal.returns-clause-follows
returns-clause-follows g c = follows_step (moved
    c.settle.ensures c.clear_undo-done.ensures.part (become_turns _)) (λ _ _ _ turn. books_stay turn.is)

pub returns-clause-cleared : goal.returns-clause-cleared
returns-clause-cleared g c = if_ok c.settle.result _ (λ x is s.
    holds_step (moved c.settle.ensures c.clear_undo-done.ensures.part (become_turns _)) is
    (λ _ _ drops. images_then (λ p q. None) drops.is (λ _ _ _ _ _. refl) (λ _ _ _. (refl, λ o is. absurd cc))))
