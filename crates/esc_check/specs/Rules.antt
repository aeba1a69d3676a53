-- The rules that the tables of a registry keep, by their numbers (this project's profile).
use Rattle.std.specs.Prelude.{ℕ, List, ◌∷◌}
use Rattle.std.specs.Fmt.{decimal}
use Rattle.esc_check.specs.declared.rule.Rule.{Rule}
use Rattle.esc_check.specs.declared.rule.Rule.TheVariants.{LinkTarget, ObjectCount, KnownStatus}
use Rattle.esc_check.specs.declared.rule.Rule.TheVariants.{OkAlone, CreatedBefore, ExpiresAfter}
use Rattle.esc_check.specs.declared.rule.Rule.TheVariants.{DateForm}

-- the number of a rule
abbrev pub rule_number : Rule → ℕ
rule_number LinkTarget = 1
rule_number ObjectCount = 2
rule_number KnownStatus = 3
rule_number OkAlone = 4
rule_number CreatedBefore = 5
rule_number ExpiresAfter = 6
rule_number DateForm = 7

-- V and the rule's number
abbrev pub rule_text : Rule → List ℕ
rule_text rule = 86 ∷ decimal (rule_number rule)
