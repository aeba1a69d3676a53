use Rattle.esc_store.proofs.Common.{◌∙◌, ap, on_ok_weaker, if_ok, map, new_image, was_clean}
use Rattle.esc_store.proofs.Common.{GainsImages, GainsObjects, Objects, Undo}
use Rattle.esc_store.proofs.Filled.{note_all, put_all, follows_then, free_rows, is_new}
use Rattle.esc_store.proofs.Registries.{replacing, books_stay, moved, follows_step, holds_step}
use Rattle.esc_store.proofs.filling.Change+S.fill_rows.Goals as goal

pub returns-in_err-settle-clause-follows : goal.returns-in_err-settle-clause-follows
returns-in_err-settle-clause-follows g c = follows_then c.find_images.ensures.follows
    (follows_step (moved c.settle.ensures c.insert_images-noted.ensures.part
    (replacing Undo (GainsImages _ _))) (λ _ _ _ set. books_stay set.only))

pub returns-in-Vacant-clause-follows : goal.returns-in-Vacant-clause-follows
returns-in-Vacant-clause-follows g c = follows_then (follows_then c.find_images.ensures.follows
    (follows_step (moved c.settle.ensures c.insert_images-noted.ensures.part
    (replacing Undo (GainsImages _ _))) (λ _ _ _ set. books_stay set.only)))
    (follows_step (moved c.settle-in-Vacant.ensures c.insert_objects-done.ensures.part
    (replacing Objects (GainsObjects _))) (λ _ _ _ set. books_stay set.only))

pub returns-clause-follows : goal.returns-clause-follows
returns-clause-follows g c = follows_then (follows_then c.find_images.ensures.follows
    (follows_step (moved c.settle.ensures c.insert_images-noted.ensures.part
    (replacing Undo (GainsImages _ _))) (λ _ _ _ set. books_stay set.only)))
    c.put_each.ensures.follows

pub returns-in-Vacant-clause-filled : goal.returns-in-Vacant-clause-filled
returns-in-Vacant-clause-filled g c = if_ok c.settle-in-Vacant.result _ (λ x is honest s es are can held.
    let new = is_new c.args.targets s c.args.step es can in
    let noting = moved c.settle.ensures c.insert_images-noted.ensures.part (replacing Undo (GainsImages _ _)) in
    let putting = moved c.settle-in-Vacant.ensures
    c.insert_objects-done.ensures.part (replacing Objects (GainsObjects _)) in
    let found = c.in_ok-images.ensures.images (was_clean noting.pass.survives (was_clean
    putting.pass.survives honest)) s (free_rows c.args.targets s c.args.step are can) held in
    holds_step putting is (λ _ _ set. put_all are new set)
    (holds_step noting c.in_ok-settle.was (λ _ _ set. note_all
    are new (ap (map new_image) c.as_slice.ensures.value ∙ found.0) set) found.1))

pub returns-clause-filled : goal.returns-clause-filled
returns-clause-filled g c = on_ok_weaker c.put_each.result (λ put honest s es are can held.
    let new = is_new c.args.targets s c.args.step es can in
    let noting = moved c.settle.ensures c.insert_images-noted.ensures.part (replacing Undo (GainsImages _ _)) in
    let found = c.in_ok-images.ensures.images
    (was_clean noting.pass.survives (was_clean c.put_each.ensures.follows.goes_on.survives honest))
    s (free_rows c.args.targets s c.args.step are can) held in
    put s c.args.step es are
    (holds_step noting c.in_ok-settle.was (λ _ _ set. note_all
    are new (ap (map new_image) c.as_slice.ensures.value ∙ found.0) set) found.1))
    c.put_each.ensures.put
