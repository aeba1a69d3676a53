use Rattle.esc_store.proofs.Common.{◌∙◌, refl, sym, IfOk-at_ok, was_clean, if_ok, HasMadeBooksIn}
use Rattle.esc_sql.specs.Rows.{HeldRow}
use Rattle.esc_store.proofs.RowSteps.{held_turns, books_held, none_in}
use Rattle.esc_store.proofs.Following.{moved, part_step, lists_same, step_is, registry_same}
use Rattle.esc_store.proofs.change.Change+S.hold.Goals as goal

pub returns-clause-part : goal.returns-clause-part
returns-clause-part g c = rw (← c.in_ok-row.ensures.number)
    (part_step (moved c.settle.ensures c.insert_held-done.ensures.part (held_turns _))
    (λ _. refl) (λ k. books_held k _) (λ _ _ _ turn. registry_same turn.is refl refl))

pub returns-clause-listed : goal.returns-clause-listed
returns-clause-listed g c =
    lists_same c.args.self.now (moved c.settle.ensures c.insert_held-done.ensures.part (held_turns _))

-- a row that is given a body had none before
pub returns-clause-free : goal.returns-clause-free
unfolding HasMadeBooksIn
returns-clause-free g c = rw (← c.in_ok-row.ensures.number) (if_ok c.settle.result _ (λ x is clean before k made.
    let step = step_is c.settle.ensures.settled c.insert_held-done.ensures.part in
    let m = IfOk-at_ok _ is (step.made clean) in
    let was = was_clean step.survives clean in
    sym ((made.books was m.0).held c.in_ok-row.row)
    ∙ none_in (λ (x : HeldRow). x.body) _ (m.1 _ (made.begun.on was m.0).2).1))
