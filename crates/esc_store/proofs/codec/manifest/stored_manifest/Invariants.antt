use Rattle.esc_store.proofs.Common.{◌≡◌, map, take, listed_from, listed_row}
use Rattle.esc_store.proofs.codec.manifest.stored_manifest.Given as goal

abbrev pub invariant-loop-at : goal.invariant-loop-at
invariant-loop-at l = map listed_row l.stored.items ≡ listed_from 0 (take l.at l.rows)
