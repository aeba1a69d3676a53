use Rattle.esc_store.proofs.Common.{Undo}
use Rattle.esc_store.proofs.Registries.{DropsAt, replacing, books_stay, drop_registry, moved, follows_step, holds_all}
use Rattle.esc_store.proofs.records.Change+S.forget_records.Goals as goal

pub returns-clause-follows : goal.returns-clause-follows
returns-clause-follows g c = follows_step (moved c.settle.ensures
    c.delete_undo-done.ensures.part (replacing Undo (DropsAt _))) (λ _ _ _ set. books_stay set.only)

pub returns-clause-taken : goal.returns-clause-taken
returns-clause-taken g c = holds_all (moved c.settle.ensures
    c.delete_undo-done.ensures.part (replacing Undo (DropsAt _))) (λ s. drop_registry s _)
