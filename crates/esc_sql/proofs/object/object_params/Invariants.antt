use Rattle.esc_sql.proofs.Common.{◌≡◌, map, take, flat_map, bound, new_entry, shown_entry}
use Rattle.esc_sql.proofs.object.object_params.Given as goal

abbrev pub invariant-loop-at : goal.invariant-loop-at
invariant-loop-at l = bound l.all.items ≡ flat_map shown_entry (map new_entry (take l.at l.rows))
