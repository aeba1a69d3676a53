use Rattle.std.proofs.Common.{◌≡◌, ◌++◌, drop}
use Rattle.esc_reports.specs.GapsText.{gap_lines_text}
use Rattle.esc_reports.proofs.gaps.write_lines.Given as goal

-- what was written, and the places that are left
abbrev pub invariant-loop-gap : goal.invariant-loop-gap
invariant-loop-gap l = l.lines ++ gap_lines_text (drop l.gap-index l.gaps) ≡ l.fn.lines ++ gap_lines_text l.gaps
