use Rattle.std.proofs.Common.{◌≡◌, ◌++◌, drop}
use Rattle.esc_reports.specs.LinksText.{findings_text}
use Rattle.esc_reports.proofs.links.write_findings.Given as goal

-- what was written, and the findings that are left
abbrev pub invariant-loop-finding : goal.invariant-loop-finding
invariant-loop-finding l =
    l.lines ++ findings_text (drop l.finding-index l.findings) ≡ l.fn.lines ++ findings_text l.findings
