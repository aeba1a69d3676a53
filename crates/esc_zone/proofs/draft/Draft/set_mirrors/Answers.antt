use mathlib.Core.Path.{fun_ext}
use Rattle.std.proofs.Common.{List, ℕ, Option, Some, None, ap, sym, subst, refl, ◌∙◌}
use Rattle.std.specs.Prelude.{IsSome, cond}
use Rattle.std.specs.Option.{option_map}
use Rattle.std.specs.BTreeMap.{get}
use Rattle.esc_zone.specs.declared.draft.Place.{Place}
use Rattle.esc_zone.specs.Names.{name_cmp, name_eq}
use Rattle.esc_zone.specs.Noted.{DraftNotes, PlaceNotes, draft_notes, place_notes, with_original}
use Rattle.esc_zone.proofs.Noting.{noted_changed, noted_absent}
use Rattle.esc_zone.proofs.Taken.{one_original}
use Rattle.esc_zone.proofs.draft.Draft.set_mirrors.Goals as goal

pub returns-in-Some : goal.returns-in-Some
returns-in-Some c =
    let d : DraftNotes = draft_notes c.args.self.now in
    let m = c.args.self.now.places in
    let name = c.args.name.now in
    let original : Option (List ℕ) = c.args.original in
    let w = c.set_original_of.new.place in
    let some = subst (λ (o : Option Place). IsSome o) c.in-Some.ensures.value refl in
    ap (λ (places : List ℕ → Option PlaceNotes). record d { places = places })
    (fun_ext (λ q. noted_changed place_notes (with_original (Some original)) (get name_cmp m)
    (get name_cmp (c.get_mut.follows.lender w)) c.in-Some.place.now w name (sym c.in-Some.ensures.value)
    c.set_original_of.ensures ((c.get_mut.follows.holds w).3 some).0 q
    ∙ one_original (name_eq name q) original (option_map place_notes (get name_cmp m q))))

pub returns-in-None : goal.returns-in-None
returns-in-None c =
    let d : DraftNotes = draft_notes c.args.self.now in
    let m = c.args.self.now.places in
    let name = c.args.name.now in
    let original : Option (List ℕ) = c.args.original in
    ap (λ m'. record d { places = λ q. option_map place_notes (get name_cmp m' q) }) c.get_mut.follows.holds-at-none
    ∙ ap (λ (places : List ℕ → Option PlaceNotes). record d { places = places })
    (fun_ext (λ q. noted_absent place_notes (with_original (Some original)) (get name_cmp m) name
    (sym c.in-None.ensures.value) q
    ∙ one_original (name_eq name q) original (option_map place_notes (get name_cmp m q))))
