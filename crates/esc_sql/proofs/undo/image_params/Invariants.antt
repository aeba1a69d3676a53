use Rattle.esc_sql.proofs.Common.{◌≡◌, ◌∷◌, pos, map, take, flat_map, Int, bound, new_image}
use Rattle.esc_sql.proofs.Common.{shown_image_entry}
use Rattle.esc_sql.proofs.undo.image_params.Given as goal

abbrev pub invariant-loop-row : goal.invariant-loop-row
invariant-loop-row l =
    bound l.all.items ≡ Int (pos l.at) ∷ flat_map shown_image_entry (map new_image (take l.row l.rows))
