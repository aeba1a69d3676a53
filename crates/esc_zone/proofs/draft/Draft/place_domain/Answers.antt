use Rattle.std.proofs.lemmas.Result.{on_ok_weaker}
use Rattle.std.specs.Prelude.{OnOk, String}
use Rattle.std.specs.declared.alloc.Global.{Global}
use Rattle.std.proofs.Common.{None, List, ◌≡◌, ◌==◌, length, Some, rules, refl, subst}
use Rattle.esc_tables.specs.ObjectValue.{RowValue}
use Rattle.esc_zone.specs.Drafts.{zone_notes}
use Rattle.esc_zone.specs.Lists.{IsOrderedOnce}
use Rattle.esc_zone.specs.Names.{name_cmp}
use Rattle.esc_zone.specs.Statuses.{hold_of}
use Rattle.esc_zone.specs.Delegations.{kept_out, texts_of, server_texts}
use Rattle.esc_zone.specs.Told.{told_lines, TellsOfDelegation}
use Rattle.esc_zone.proofs.Delegated.{domain_kept}
use Rattle.esc_zone.proofs.Telling.{kept_told, let_in_told}
use Rattle.esc_zone.specs.Mirrors.{original_notes}
use Rattle.esc_zone.proofs.Keeping.{keeps_nothing}
use Rattle.esc_zone.proofs.draft.Draft.place_domain.Goals as goal

pub returns-in-Some-clause-records : goal.returns-in-Some-clause-records
returns-in-Some-clause-records c =
    let rows = c.args.object.now.children in
    let servers = c.in_ok-servers.servers.items in
    let out : Some c.in-Some.outcome ≡ kept_out (hold_of rows) (length servers == 0) = search rules in
    let same : c.deref.result.now ≡ rows = search rules in
    let texts = subst (λ (rs : List RowValue). IsOrderedOnce name_cmp (server_texts rs) (texts_of servers))
    same c.in_ok-servers.ensures in
    domain_kept (zone_notes c.args.self.now) c.args.text.now rows servers c.in-Some.outcome
    c.args.sheet.now.records c.tell_kept.new.sheet.records out texts c.in_ok-tell_kept-in-Some.ensures.same

pub returns-in-Some-clause-told : goal.returns-in-Some-clause-told
returns-in-Some-clause-told c =
    let rows = c.args.object.now.children in
    let servers = c.in_ok-servers.servers.items in
    let out : Some c.in-Some.outcome ≡ kept_out (hold_of rows) (length servers == 0) = search rules in
    let same : c.deref.result.now ≡ rows = search rules in
    let texts = subst (λ (rs : List RowValue). IsOrderedOnce name_cmp (server_texts rs) (texts_of servers))
    same c.in_ok-servers.ensures in
    kept_told (zone_notes c.args.self.now) c.args.text.now rows servers c.in-Some.outcome
    (told_lines c.args.sheet.now) (told_lines c.tell_kept.new.sheet) out texts
    c.in_ok-tell_kept-in-Some.ensures.told

pub returns-clause-told : goal.returns-clause-told
returns-clause-told c =
    let z = zone_notes c.args.self.now in
    let text = c.args.text.now in
    let rows = c.args.object.now.children in
    let servers = c.in_ok-servers.servers.items in
    let start = told_lines c.args.sheet.now in
    let end = told_lines c.delegate_domain.new.sheet in
    let let_in : None ≡ kept_out (hold_of rows) (length servers == 0) = search rules in
    let same : c.deref.result.now ≡ rows = search rules in
    let texts = subst (λ (rs : List RowValue). IsOrderedOnce name_cmp (server_texts rs) (texts_of servers))
    same c.in_ok-servers.ensures in
    let these : c.deref-in-None.result.now ≡ servers = search rules in
    let those : c.deref-in-None-2.result.now ≡ rows = search rules in
    let told =
    subst (λ (rs : List RowValue).
    OnOk c.delegate_domain.result (TellsOfDelegation z text rs (texts_of servers) start end)) those
    (subst (λ (l : List (String Global)).
    OnOk c.delegate_domain.result
    (TellsOfDelegation z text c.deref-in-None-2.result.now (texts_of l) start end))
    these c.delegate_domain.ensures.told) in
    on_ok_weaker c.delegate_domain.result
    (λ (t : TellsOfDelegation z text rows (texts_of servers) start end).
    let_in_told z text rows servers start end let_in texts t)
    told

pub returns-in-Some-clause-originals : goal.returns-in-Some-clause-originals
returns-in-Some-clause-originals c =
    keeps_nothing c.args.text.now (original_notes c.args.self.now) _ c.args.sheet.now.records _ refl
    c.in_ok-tell_kept-in-Some.ensures.same
