-- What is found in the objects of the tables of a store that reflects a list of events.
use Rattle.std.specs.Prelude.{◌≡◌, ℕ, List, Option}
use Rattle.esc_apply.specs.ObjectStreams.{Entry}
use Rattle.esc_check.specs.FindingValue.{FindingValue}
use Rattle.esc_events.specs.Events.{EventValue}
use Rattle.esc_events.specs.LatestTables.{AreEntries}
use Rattle.esc_desk.specs.declared.status.End.{End}
use Rattle.esc_reports.specs.Reports.{AreFindings}
use Rattle.esc_conformity.specs.declared.found.Flaws.{Flaws}
use Rattle.esc_conformity.specs.declared.rule.Rule.{Rule}
use Rattle.esc_conformity.specs.Flaws.{flaws}
use Rattle.esc_conformity.specs.Found.{keys_by}
use Rattle.esc_acceptance.specs.declared.guide.Guide.{Guide}
use Rattle.esc_acceptance.specs.Guides.{lacking_guides}

-- these are the findings in the latest chain's tables, where the end of the chain says this; the
-- guides that some object lacks; and the keys of those that break each rule, in a registry of this
-- TLD, if that is known
pub record AreContentsOf (e : List EventValue) (end : Option End) (tld : Option (List ℕ))
    (findings : List FindingValue) (lacking : List Guide) (found : Flaws) : Type 0 where
  pub entries : List Entry
  pub tables : AreEntries e entries
  pub are_found : AreFindings entries end findings
  pub are_lacking : lacking ≡ lacking_guides entries
  pub flawed : (rule : Rule) → keys_by found rule ≡ flaws rule tld entries
