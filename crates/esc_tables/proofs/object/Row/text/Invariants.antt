use Rattle.std.proofs.Common.{◌≡◌, drop}
use Rattle.esc_tables.proofs.Cells.{text_among}
use Rattle.esc_tables.proofs.object.Row.text.Given as goal

-- the cells that are left decide
abbrev pub invariant-loop-at : goal.invariant-loop-at
invariant-loop-at l = text_among l.field (drop l.at l.self.cells) ≡ text_among l.field l.self.cells
