use Rattle.std.proofs.Common.{◌≡◌, ◌++◌, take, drop, All}
use Rattle.esc_pack.specs.Written.{rows_text, IsLegible}
use Rattle.esc_pack.proofs.written.write_rows.Given as goal

-- what was written, and the rows that are left
abbrev pub invariant-loop-row : goal.invariant-loop-row
invariant-loop-row l = record {
  written : l.lines ++ rows_text (drop l.row-index l.rows) ≡ l.fn.lines ++ rows_text l.rows;
  legible : All IsLegible (take l.row-index l.rows);
}
