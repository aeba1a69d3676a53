use Rattle.esc_store.proofs.Common.{◌≡◌, List, map, take, MRow, listed_from, listed_row}
use Rattle.esc_store.proofs.codec.manifest.manifest_rows.Given as goal

abbrev pub invariant-loop-at : goal.invariant-loop-at
invariant-loop-at l = (rs : List MRow)
    → map listed_row l.stored ≡ listed_from 0 rs → l.rows.items ≡ take l.at rs
