use Rattle.std.proofs.Common.{subst}
use Rattle.esc_acceptance.specs.Acceptance.{SeenValue}
use Rattle.esc_inspection.specs.Answers.{IsPageOf}
use Rattle.esc_inspection.proofs.inspection.answer_of.Goals as goal

pub returns-in_ok-text-in-Page : goal.returns-in_ok-text-in-Page
returns-in_ok-text-in-Page c =
    let page = c.in_ok-text-in-Page.ensures in
    record {
      shown = rw c.in-Page.is (subst (λ (s : SeenValue). IsPageOf s c.in_ok-text-in-Page.text.items)
          c.seen-seen.ensures
          (record { markup = page.markup; verdict = page.verdict; kinds = page.kinds; rules = page.rules }));
    }
