use Rattle.esc_store.proofs.Common.{if_ok}
use Rattle.esc_store.proofs.Registries.{noting, books_stay, note_registry, moved, follows_step, holds_step}
use Rattle.esc_store.proofs.records.Change+S.note_stored.Goals as goal

pub returns-clause-follows : goal.returns-clause-follows
returns-clause-follows g c = follows_step (moved c.settle.ensures
    c.insert_undo-done.ensures.part (noting _ _ _ _)) (λ _ _ _ set. books_stay set.only)

pub returns-clause-noted : goal.returns-clause-noted
returns-clause-noted g c = if_ok c.settle.result _ (λ x is s k o kinds texts bytes has.
    holds_step (moved c.settle.ensures c.insert_undo-done.ensures.part (noting _ _ _ _)) is
    (λ _ _. note_registry c.args.step k o kinds texts bytes has))
