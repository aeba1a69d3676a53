-- What is answered to the question of whether a registry may be taken over.
use Rattle.std.specs.Prelude.{◌≡◌, ℕ, ℤ, List, Option}
use Rattle.esc_html.specs.Markup.{IsHtmlPage}
use Rattle.esc_handover.specs.declared.answer.Answer.{Answer}
use Rattle.esc_handover.specs.PageParts.{TellsKinds, TellsRules}
use Rattle.esc_handover.specs.Titles.{TellsVerdict}
use Rattle.esc_acceptance.specs.Acceptance.{SeenValue, is_accepted, status_of}
use Rattle.esc_acceptance.specs.Lines.{IsTextOf}
use Rattle.esc_events.specs.Events.{EventValue}
use Rattle.esc_inspection.specs.Inspected.{AreFactsAfter, seen_in}
use Rattle.esc_inspection.specs.declared.facts.StoreFacts.{StoreFacts}
use Rattle.esc_inspection.specs.declared.form.Form.{Form}
use Rattle.esc_inspection.specs.declared.form.Form.TheVariants.{Lines, Page}

-- a page of HTML tells of what was seen whether the registry may be taken over, how many objects of
-- each kind there are and are declared, and how many findings of each rule
pub record IsPageOf (s : SeenValue) (page : List ℕ) : Type 0 where
  pub markup : IsHtmlPage page
  pub verdict : TellsVerdict (is_accepted s) page
  pub kinds : TellsKinds s.objects s.counts page
  pub rules : TellsRules s.findings page

-- what was seen is shown: as lines, with the status of these, or as a page
abbrev pub Shows : SeenValue → Form → Answer → Type 0
Shows s (Lines is_strict) a = IsTextOf s a.text.items × (a.status ≡ status_of is_strict s)
Shows s Page a = IsPageOf s a.text.items

-- this is the answer at a time, after these events
pub record IsAnswerAfter (e : List EventValue) (clock : Option ℤ) (form : Form) (a : Answer)
    : Type 0 where
  pub facts : StoreFacts
  pub seen : AreFactsAfter e facts
  pub at_clock : facts.clock ≡ clock
  pub shown : Shows (seen_in facts) form a
