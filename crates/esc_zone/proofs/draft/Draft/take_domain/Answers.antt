use mathlib.Core.Path.{fun_ext}
use Rattle.std.proofs.Common.{List, ℕ, Option, Some, None, ◌≡◌, ◌∙◌, ap, sym, true, false, rules}
use Rattle.std.specs.Prelude.{cond, is_some}
use Rattle.std.specs.BTreeMap.{get}
use Rattle.esc_apply.specs.ObjectStreams.{Entry}
use Rattle.esc_zone.specs.Fields.{normal}
use Rattle.esc_zone.specs.Names.{is_name_with, name_cmp}
use Rattle.esc_zone.specs.Noted.{DraftNotes, PlaceNotes, draft_notes, place_notes, place_said, with_domain}
use Rattle.esc_zone.proofs.Added.{made_if}
use Rattle.esc_zone.proofs.Noting.{noted_absent, none_of, domain_place}
use Rattle.esc_zone.proofs.draft.Draft.take_domain.Goals as goal

pub returns-then-not-contains_key : goal.returns-then-not-contains_key
returns-then-not-contains_key c =
    let d : DraftNotes = draft_notes c.args.self.now in
    let m = c.args.self.now.places in
    let e : Entry = (c.args.key.now, c.args.object.now) in
    let t = normal c.args.key.now.text in
    let name = c.in-Some.name in
    let text : c.as_str.result.now ≡ c.args.key.now.text = search rules in
    let made = made_if (is_name_with false t) t name (sym c.in-Some.is ∙ c.in_ok-name.ensures
    ∙ ap (λ (x : List ℕ). cond (is_name_with false (normal x)) (Some (normal x)) None) text) in
    let has : is_some (get name_cmp m name) ≡ false = search rules in
    ap (λ (places : List ℕ → Option PlaceNotes). record d { places = places })
    (fun_ext (noted_absent place_notes (with_domain (place_said d c.args.object.now.children))
    (get name_cmp m) name (none_of _ has)))
    ∙ domain_place d e name made.0 made.1

pub returns : goal.returns
returns c =
    let d : DraftNotes = draft_notes c.args.self.now in
    let e : Entry = (c.args.key.now, c.args.object.now) in
    let t = normal c.args.key.now.text in
    let text : c.as_str.result.now ≡ c.args.key.now.text = search rules in
    let made = made_if (is_name_with false t) t c.in-Some.name (sym c.in-Some.is ∙ c.in_ok-name.ensures
    ∙ ap (λ (x : List ℕ). cond (is_name_with false (normal x)) (Some (normal x)) None) text) in
    c.in_ok-take_place.ensures ∙ domain_place d e c.in-Some.name made.0 made.1
