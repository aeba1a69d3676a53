use Rattle.std.proofs.Common.{◌≡◌, ◌++◌, drop, string_bytes}
use Rattle.std.specs.List.{flat_map}
use Rattle.esc_acceptance.specs.Lines.{test_line}
use Rattle.esc_acceptance.proofs.report.push_lines.Given as goal

-- with the lines that are left it is the whole
abbrev pub invariant-loop-line : goal.invariant-loop-line
invariant-loop-line l = string_bytes l.text ++ flat_map test_line (drop l.line-index l.lines)
    ≡ string_bytes l.fn.text ++ flat_map test_line l.lines
