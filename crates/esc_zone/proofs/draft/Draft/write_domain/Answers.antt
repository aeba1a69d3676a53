use Rattle.std.proofs.Common.{◌≡◌, ◌≤◌, ◌∙◌, List, ℕ, rules, sym, subst}
use Rattle.std.proofs.lemmas.Result.{on_ok_weaker}
use Rattle.esc_zone.specs.Delegations.{AddsDomain}
use Rattle.esc_zone.specs.Drafts.{zone_notes}
use Rattle.esc_zone.specs.Fields.{normal}
use Rattle.esc_zone.specs.Records.{RecordsValue}
use Rattle.esc_zone.specs.Told.{told_lines, TellsOfDomain}
use Rattle.esc_zone.proofs.Delegated.{on_ok_of}
use Rattle.esc_zone.proofs.Telling.{told_within}
use Rattle.esc_zone.specs.Mirrors.{original_notes}
use Rattle.esc_zone.proofs.Keeping.{keeps_same}
use Rattle.esc_zone.proofs.draft.Draft.write_domain.Goals as goal

pub returns-clause-noted : goal.returns-clause-noted
returns-clause-noted c = on_ok_of c.tell_foreign.result _ c.in_ok-outcome.ensures.noted

pub returns-clause-records : goal.returns-clause-records
returns-clause-records c =
    let z = zone_notes c.args.self.now in
    let rows = c.args.object.now.children in
    let start = c.args.sheet.now.records in
    let end = c.tell_foreign.new.sheet.records in
    let name : c.as_str-text.result.now ≡ normal c.args.key.now.text = search rules in
    let adds =
    subst (λ (r : RecordsValue). AddsDomain z c.as_str-text.result.now rows start r)
    (sym c.tell_foreign.ensures.same)
    (subst (λ (r : RecordsValue).
    AddsDomain z c.as_str-text.result.now rows r c.place_domain.new.sheet.records)
    c.in_ok-tell_statuses.ensures.same c.in_ok-outcome.ensures.records) in
    on_ok_of c.tell_foreign.result _
    (subst (λ (n : List ℕ). AddsDomain z n rows start end) name adds)

pub returns-clause-told : goal.returns-clause-told
returns-clause-told c =
    let z = zone_notes c.args.self.now in
    let rows = c.args.object.now.children in
    let start = told_lines c.args.sheet.now in
    let before = told_lines c.tell_statuses.new.sheet in
    let after = told_lines c.place_domain.new.sheet in
    let end = told_lines c.tell_foreign.new.sheet in
    let text = c.as_str-text.result.now in
    let name : text ≡ normal c.args.key.now.text = search rules in
    on_ok_weaker c.tell_foreign.result
    (λ (later : after ≤ end).
    subst (λ (n : List ℕ). TellsOfDomain z n rows start end) name
    (told_within z text rows start before after end c.in_ok-tell_statuses.ensures.told later
    c.in_ok-outcome.ensures.told))
    c.tell_foreign.ensures.told

pub returns-clause-originals : goal.returns-clause-originals
returns-clause-originals c =
    let text = c.as_str-text.result.now in
    let before = c.args.sheet.now.records in
    let now = c.tell_statuses.new.sheet.records in
    let after = c.place_domain.new.sheet.records in
    let end = c.tell_foreign.new.sheet.records in
    let is : text ≡ normal c.args.key.now.text = search rules in
    let start : now ≡ before = search rules in
    let finish : end ≡ after = search rules in
    on_ok_of c.tell_foreign.result _ (keeps_same text (normal c.args.key.now.text) (original_notes c.args.self.now) _
    before now after end is start finish c.in_ok-outcome.ensures.originals)
