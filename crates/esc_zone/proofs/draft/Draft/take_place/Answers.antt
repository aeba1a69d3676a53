use mathlib.Core.Path.{fun_ext}
use Rattle.std.proofs.Common.{List, ℕ, Option, Some, None, ◌≡◌, ◌∙◌, ap, sym, subst, refl, rules}
use Rattle.std.specs.Prelude.{IsSome}
use Rattle.std.specs.Option.{option_map}
use Rattle.std.specs.BTreeMap.{get}
use Rattle.esc_tables.specs.ObjectValue.{RowValue}
use Rattle.esc_zone.specs.declared.draft.Place.{Place}
use Rattle.esc_zone.specs.Names.{name_cmp}
use Rattle.esc_zone.specs.Noted.{DraftNotes, PlaceNotes, draft_notes, place_notes, place_said, with_domain}
use Rattle.esc_zone.proofs.Noting.{noted_changed, noted_absent, on_ok_then}
use Rattle.esc_zone.proofs.draft.Draft.take_place.Goals as goal

pub returns-in-Some : goal.returns-in-Some
returns-in-Some c =
    let d : DraftNotes = draft_notes c.args.self.now in
    let m = c.args.self.now.places in
    let name = c.args.name.now in
    let w = c.fill_place.new.place in
    let old = c.in-Some.place.now in
    let rows : c.deref.result.now ≡ c.args.object.now.children = search rules in
    let taken = c.in_ok-taken.ensures ∙ ap (λ (r : List RowValue). place_said d r) rows in
    let change = with_domain (place_said d c.args.object.now.children) in
    let found = sym c.in-Some.ensures.value in
    let some = subst (λ (o : Option Place). IsSome o) c.in-Some.ensures.value refl in
    on_ok_then c.fill_place.result _ _
    (λ is. ap (λ (places : List ℕ → Option PlaceNotes). record d { places = places })
    (fun_ext (noted_changed place_notes change (get name_cmp m) (get name_cmp (c.get_mut.follows.lender w))
    old w name found (is ∙ ap (λ (t : PlaceNotes). with_domain t (place_notes old)) taken)
    ((c.get_mut.follows.holds w).3 some).0)))
    c.fill_place.ensures

pub returns-in-None : goal.returns-in-None
returns-in-None c =
    let d : DraftNotes = draft_notes c.args.self.now in
    let m = c.args.self.now.places in
    let change = with_domain (place_said d c.args.object.now.children) in
    let none = sym c.in-None.ensures.value in
    ap (λ m'. record d { places = λ q. option_map place_notes (get name_cmp m' q) }) c.get_mut.follows.holds-at-none
    ∙ ap (λ (places : List ℕ → Option PlaceNotes). record d { places = places })
    (fun_ext (noted_absent place_notes change (get name_cmp m) c.args.name.now none))
