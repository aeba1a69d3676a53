use Rattle.esc_store.proofs.Common.{◌∙◌, Some, ap, subst, map, option_map, lookup}
use Rattle.esc_store.proofs.Common.{IsDistinct-from_sorted, kind_rank, key_cmp, key_eq, KeyName}
use Rattle.esc_store.proofs.Common.{stored_image, AreImagesOf, was_clean}
use Rattle.esc_store.proofs.Gathering.{same_images}
use Rattle.esc_store.proofs.Registries.{image_here}
use Rattle.esc_store.proofs.registry.ChangeRegistry.take_undo.Goals as goal

pub returns-clause-taken : goal.returns-clause-taken
returns-clause-taken g c = λ honest s holds.
    let (notes, held) = c.in_ok-found.ensures.found
    (was_clean c.forget_records.ensures.follows.goes_on.survives honest) s holds in
    let noted = c.in_ok-noted.noted.items in
    let each = subst (λ rows. AreImagesOf (map stored_image rows) noted)
    c.as_slice.ensures.value c.in_ok-noted.ensures.each in
    let same = λ (q : KeyName). same_images c.no_record_begins_another.ensures (lookup (key_eq q) noted)
    (s.undo c.args.step q)
    (each q ∙ ap (option_map (option_map (λ bytes. Some bytes))) (notes.each (kind_rank q.kind) q.text
    ∙ image_here (s.undo c.args.step) q)) (notes.recorded q) in (
      record { once = IsDistinct-from_sorted key_cmp _ c.in_ok-noted.ensures.ordered; each = same },
      c.in_ok-forget_records.ensures.taken s held,
    )
