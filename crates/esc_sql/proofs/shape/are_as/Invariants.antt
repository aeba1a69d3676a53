use Rattle.esc_sql.proofs.Common.{◌≡◌, map, take}
use Rattle.esc_sql.proofs.shape.are_as.Given as goal

abbrev pub invariant-loop-at : goal.invariant-loop-at
invariant-loop-at g l = take l.at l.all ≡ map g.W.Describes.part (take l.at l.rows)
