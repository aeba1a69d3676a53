use Rattle.esc_store.proofs.Common.{map, take, IsOrdered, key_cmp, stored_image, AreImagesOf}
use Rattle.esc_store.proofs.codec.object.images_by_key.Given as goal

abbrev pub invariant-loop-at : goal.invariant-loop-at
invariant-loop-at l = IsOrdered key_cmp l.images × AreImagesOf (map stored_image (take l.at l.stored)) l.images.entries
