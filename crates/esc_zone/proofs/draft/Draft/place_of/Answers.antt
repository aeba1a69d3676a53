use mathlib.Core.Path.{fun_ext}
use Rattle.std.proofs.Common.{◌≡◌, ◌∙◌, ap, List, ℕ, sym, rules, refl}
use Rattle.std.specs.Prelude.{is_none}
use Rattle.std.specs.List.{list_any}
use Rattle.esc_zone.specs.Delegations.{texts_of, server_texts}
use Rattle.esc_zone.specs.Lists.{IsOrderedOnce}
use Rattle.esc_zone.specs.Names.{name_cmp}
use Rattle.esc_zone.specs.Statuses.{hold_of}
use Rattle.esc_zone.specs.Noted.{PlaceNotes, place_notes, place_said, draft_notes, is_among_names}
use Rattle.esc_zone.specs.Noted.{is_outside_server, is_server_at}
use Rattle.esc_zone.proofs.Noting.{same_place_notes, any_ordered, among_inside, texts_as}
use Rattle.esc_zone.proofs.draft.Draft.place_of.Goals as goal

pub returns : goal.returns
returns c =
    let d = draft_notes c.args.self.now in
    let s = c.args.self.now.settings in
    let rows = c.args.rows.now in
    let given = server_texts rows in
    let texts = texts_of c.in_ok-servers.servers.items in
    let in-order : IsOrderedOnce name_cmp given texts = c.in_ok-servers.ensures in
    let held : c.is_none.result ≡ is_none (hold_of rows) = search rules in
    let outside = c.in_ok-has_outside.ensures
    ∙ ap (λ l. list_any (is_outside_server s) (texts_of l)) c.deref.ensures.value
    ∙ any_ordered name_cmp (is_outside_server s) given texts in-order in
    let inside = ap is_among_names (c.in_ok-inside.ensures
    ∙ ap (λ l. texts_as s (texts_of l)) c.deref-2.ensures.value)
    ∙ fun_ext (λ host. among_inside s texts host
    ∙ any_ordered name_cmp (λ text. is_server_at s text host) given texts in-order) in
    let empty = c.empty_place-place.ensures in
    same_place_notes _ (place_said d rows) (ap (λ (p : PlaceNotes). p.is_domain) empty) held outside
    inside c.in_ok-attributes.ensures (ap (λ (p : PlaceNotes). p.mirrors) empty)
    (ap (λ (p : PlaceNotes). p.is_cut) empty)
