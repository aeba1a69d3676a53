use Rattle.std.proofs.Common.{take, All}
use Rattle.esc_handover.specs.PageParts.{HasRule}
use Rattle.esc_handover.proofs.page.findings.rule_tables.Given as goal

-- the headings of the rules so far are in the tables
abbrev pub invariant-loop-rule : goal.invariant-loop-rule
invariant-loop-rule l = All (HasRule l.findings l.tables) (take l.rule-index l.rules)
