use Rattle.esc_store.proofs.Common.{◌∙◌, ◌+◌, ap, unwrap_or, refl, arith, IfOk-at_ok, IfErr-weaker}
use Rattle.esc_store.proofs.Common.{if_ok, was_clean, last_number, HasMadeBooksIn}
use Rattle.esc_store.proofs.Reading.{counted}
use Rattle.esc_store.proofs.RowSteps.{books_receipt}
use Rattle.esc_store.proofs.Following.{stepped, part_step, registry_same, become_turns}
use Rattle.esc_store.proofs.change.Change+S.record_receipt.Goals as goal

pub returns-clause-part : goal.returns-clause-part
returns-clause-part g c = part_step (stepped c.add_next_here.ensures.manifest
    c.add_next_here.ensures.writes c.add_next_here.ensures.step (become_turns _))
    (λ _. refl) (λ k. books_receipt k _) (λ _ _ _ turn. registry_same turn.is refl refl)

pub returns-clause-listed : goal.returns-clause-listed
returns-clause-listed g c = ap (unwrap_or c.args.self.now.listing) c.add_next_here.ensures.manifest

pub returns-clause-number : goal.returns-clause-number
unfolding HasMadeBooksIn
returns-clause-number g c = if_ok c.add_next_here.result _ (λ n is clean before k made.
    let on = (IfOk-at_ok _ is (c.add_next_here.ensures.step.made clean)).0 in
    let was = was_clean c.add_next_here.ensures.step.survives clean in
    IfOk-at_ok _ is c.add_next_here.ensures.number clean _ (made.begun.on was on).2 ∙ ap
    (λ rs. last_number rs + 1) (made.books was on).receipts ∙ ap (λ n. n + 1) (counted k.receipts))

pub returns-clause-full : goal.returns-clause-full
unfolding HasMadeBooksIn
returns-clause-full g c = IfErr-weaker c.add_next_here.result _ _ (λ e full is clean before k made.
    let it = full is clean in
    let was = was_clean c.add_next_here.ensures.step.survives clean in
    omega (arith, it.1 _ (made.begun.on was it.0).2, ap last_number (made.books was it.0).receipts, counted k.receipts))
    c.add_next_here.ensures.full
