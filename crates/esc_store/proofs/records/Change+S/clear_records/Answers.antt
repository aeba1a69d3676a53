use Rattle.esc_store.proofs.Common.{None, refl}
use Rattle.esc_store.proofs.Registries.{books_stay, objects_then, moved, follows_step, holds_all, become_turns}
use Rattle.esc_store.proofs.records.Change+S.clear_records.Goals as goal

pub returns-clause-follows : goal.returns-clause-follows
returns-clause-follows g c = follows_step (moved c.settle.ensures
    c.clear_objects-done.ensures.part (become_turns _)) (λ _ _ _ turn. books_stay turn.is)

pub returns-clause-cleared : goal.returns-clause-cleared
returns-clause-cleared g c =
    holds_all (moved c.settle.ensures c.clear_objects-done.ensures.part (become_turns _))
    (λ s _ _ drops. objects_then (λ q. None) drops.is (λ _ _ _ _. refl) (λ _ _. (refl, tt)))
