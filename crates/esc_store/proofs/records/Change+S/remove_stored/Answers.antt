use Rattle.esc_store.proofs.Common.{refl, None, if_ok, Objects}
use Rattle.esc_store.proofs.Registries.{SetsAt, replacing, books_stay, set_registry, moved, follows_step, holds_step}
use Rattle.esc_store.proofs.records.Change+S.remove_stored.Goals as goal

pub returns-clause-follows : goal.returns-clause-follows
returns-clause-follows g c = follows_step (moved c.settle.ensures c.delete_object-done.ensures.part
    (replacing Objects (SetsAt _ _ _))) (λ _ _ _ set. books_stay set.only)

pub returns-clause-written : goal.returns-clause-written
returns-clause-written g c = if_ok c.settle.result _ (λ x is s k kinds texts.
    holds_step (moved c.settle.ensures c.delete_object-done.ensures.part (replacing Objects (SetsAt _ _ _))) is
    (λ _ _. set_registry k None kinds texts refl tt))
