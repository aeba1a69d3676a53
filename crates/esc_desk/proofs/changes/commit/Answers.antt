use Rattle.std.proofs.Common.{rules}
use Rattle.esc_store.specs.Representation.{IsHonest, LeavesOr, StoreLeavesNoMore}
use Rattle.esc_store.specs.StandingLaws.{was_clean}
use Rattle.esc_desk.specs.Edits.{IsFilled}
use Rattle.esc_desk.proofs.CauseLemmas.{if_err_is}
use Rattle.esc_desk.proofs.CrashSteps.{adds_none, adds_then, for_this}
use Rattle.esc_desk.proofs.EditSteps.{edit_fault}
use Rattle.esc_desk.proofs.changes.commit.Goals as goal

pub returns-in_err-change-clause-crash : goal.returns-in_err-change-clause-crash
unfolding LeavesOr
returns-in_err-change-clause-crash g c = λ clean k from stood. adds_none (search rules)

pub returns-in_err-done-clause-crash : goal.returns-in_err-done-clause-crash
unfolding LeavesOr
returns-in_err-done-clause-crash g c = λ clean k from stood.
    let made = adds_then c.in_ok-change.ensures.begun.survives
    (adds_then c.in_err-done.ensures.goes_on.survives c.drop-change.ensures.survives) in
    adds_none (search (rules, made))

pub returns-in_err-done-clause-cause : goal.returns-in_err-done-clause-cause
returns-in_err-done-clause-cause g c =
    let made = adds_then c.in_ok-change.ensures.begun.survives
    (adds_then c.in_err-done.ensures.goes_on.survives c.drop-change.ensures.survives) in
    let none : StoreLeavesNoMore g.S.Store c.args.store.now c.store-in_err-done-1.given.0 = search (rules, made) in
    if_err_is c.from_residual-in_err-done.result c.in_err-done.field-0.0 _ (search rules)
    (edit_fault g.S.Store c.args.store.now c.store-in_err-done-1.given.0 _ _ c.args.edit.receipt
    c.in_err-done.field-0.0 (λ (clean : IsHonest g.S.Store c.store-in_err-done-1.given.0). was_clean
    c.drop-change.ensures.survives (search (rules, clean)))
    c.in_ok-change.ensures.begun.rest none c.in_err-done.ensures.cause)

pub returns-in_err-commit_filled-clause-crash : goal.returns-in_err-commit_filled-clause-crash
returns-in_err-commit_filled-clause-crash g c = λ clean k from stood.
    let honest = c.in_err-commit_filled.ensures.honest (search (rules, clean)) in
    let all = c.in_ok-done.ensures.fills honest k from (c.in_ok-change.ensures.begun.rest k stood)
    (c.in_ok-change.ensures.begun.holds k stood) in
    for_this (IsFilled g.S.Store _ k) (LeavesOr g.S.Store _ _) _ all.filled (λ m filled.
    unfold LeavesOr in let made = adds_then c.in_ok-change.ensures.begun.survives (adds_then
    c.in_ok-done.ensures.goes_on.survives (c.in_err-commit_filled.ensures.crash k m filled)) in
    search (rules, made))

pub returns-clause-crash : goal.returns-clause-crash
returns-clause-crash g c = λ clean k from stood.
    let honest = c.in_ok-commit_filled.ensures.honest (search (rules, clean)) in
    let all = c.in_ok-done.ensures.fills honest k from (c.in_ok-change.ensures.begun.rest k stood)
    (c.in_ok-change.ensures.begun.holds k stood) in
    for_this (IsFilled g.S.Store _ k) (LeavesOr g.S.Store _ _) _ all.filled (λ m filled.
    unfold LeavesOr in let made = adds_then c.in_ok-change.ensures.begun.survives (adds_then
    c.in_ok-done.ensures.goes_on.survives (c.in_ok-commit_filled.ensures.crash k m filled)) in
    search (rules, made))

pub returns-clause-made : goal.returns-clause-made
returns-clause-made g c = λ clean k from stood.
    let honest = c.in_ok-commit_filled.ensures.honest (search (rules, clean)) in
    let all = c.in_ok-done.ensures.fills honest k from (c.in_ok-change.ensures.begun.rest k stood)
    (c.in_ok-change.ensures.begun.holds k stood) in
    let kept = c.in_ok-commit_filled.ensures.made k _ all.filled in
    let left = kept.0 in
    let stands = kept.1 (search (rules, clean)) in
    record { stands = search (rules, stands); left = search (rules, left); result = all.result; plan = all.plan }
