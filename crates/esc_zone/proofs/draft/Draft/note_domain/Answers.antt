use Rattle.std.proofs.Common.{List, ℕ, Some, None, ◌≡◌, ◌∙◌, ap, sym, subst, true, false, rules}
use Rattle.std.specs.Prelude.{cond}
use Rattle.esc_tables.specs.ObjectValue.{RowValue}
use Rattle.esc_apply.specs.ObjectStreams.{Entry}
use Rattle.esc_zone.specs.declared.draft.Settings.{Settings}
use Rattle.esc_zone.specs.Delegations.{texts_of, server_texts}
use Rattle.esc_zone.specs.Fields.{normal}
use Rattle.esc_zone.specs.Lists.{IsOrderedOnce}
use Rattle.esc_zone.specs.Names.{is_name_with, name_cmp}
use Rattle.esc_zone.specs.Noted.{DraftNotes, draft_notes, with_noted, is_server_among, is_above_uses, is_let_in_at}
use Rattle.esc_zone.proofs.Added.{made_if}
use Rattle.esc_zone.proofs.Noting.{ordered_noted, let_in_by, shut_noted, open_noted}
use Rattle.esc_zone.proofs.draft.Draft.note_domain.Goals as goal

pub returns-then-not-is_open : goal.returns-then-not-is_open
returns-then-not-is_open c =
    let d : DraftNotes = draft_notes c.args.self.now in
    let s = c.args.self.now.settings in
    let e : Entry = (c.args.key.now, c.args.object.now) in
    let t = normal c.args.key.now.text in
    let name = c.in-Some.name in
    let text : c.as_str.result.now ≡ c.args.key.now.text = search rules in
    let made = made_if (is_name_with false t) t name (sym c.in-Some.is ∙ c.in_ok-name.ensures
    ∙ ap (λ (x : List ℕ). cond (is_name_with false (normal x)) (Some (normal x)) None) text) in
    let shut : is_let_in_at c.note_odd.new.self.settings name c.deref.result.now ≡ false = search rules in
    let rows : c.deref.result.now ≡ c.args.object.now.children = search rules in
    let same = c.in_ok-note_odd.ensures in
    let here = subst (λ (r : List RowValue). is_let_in_at s name r ≡ false) rows
    (subst (λ (z : Settings). is_let_in_at z name c.deref.result.now ≡ false)
    (ap (λ (n : DraftNotes). n.settings) same) shut) in
    same ∙ shut_noted d e (let_in_by s e name false made.0 made.1 here)

pub returns : goal.returns
returns c =
    let d : DraftNotes = draft_notes c.args.self.now in
    let s = c.args.self.now.settings in
    let e : Entry = (c.args.key.now, c.args.object.now) in
    let t = normal c.args.key.now.text in
    let name = c.in-Some.name in
    let text : c.as_str.result.now ≡ c.args.key.now.text = search rules in
    let made = made_if (is_name_with false t) t name (sym c.in-Some.is ∙ c.in_ok-name.ensures
    ∙ ap (λ (x : List ℕ). cond (is_name_with false (normal x)) (Some (normal x)) None) text) in
    let yes : is_let_in_at c.note_odd.new.self.settings name c.deref.result.now ≡ true = search rules in
    let rows : c.deref.result.now ≡ c.args.object.now.children = search rules in
    let rows2 : c.deref-2.result.now ≡ c.args.object.now.children = search rules in
    let same = c.in_ok-note_odd.ensures in
    let here = subst (λ (r : List RowValue). is_let_in_at s name r ≡ true) rows
    (subst (λ (z : Settings). is_let_in_at z name c.deref.result.now ≡ true)
    (ap (λ (n : DraftNotes). n.settings) same) yes) in
    let texts = texts_of c.deref-3.result.now in
    let given = server_texts c.args.object.now.children in
    let listed : IsOrderedOnce name_cmp given texts = subst (λ (l : List (List ℕ)). IsOrderedOnce name_cmp given l)
    (ap texts_of (sym c.deref-3.ensures.value))
    (subst (λ (r : List RowValue). IsOrderedOnce name_cmp (server_texts r) (texts_of c.in_ok-servers.servers.items))
    rows2 c.in_ok-servers.ensures) in
    c.in_ok-note_uses.ensures
    ∙ ap (λ (n : DraftNotes). with_noted (is_server_among n.settings texts) (is_above_uses n.settings name texts) n)
    same
    ∙ ordered_noted s name given texts d listed
    ∙ ap (λ (n : List ℕ). with_noted (is_server_among s given) (is_above_uses s n given) d) (sym made.1)
    ∙ open_noted d e (let_in_by s e name true made.0 made.1 here)
