use mathlib.Core.Path.{fun_ext}
use Rattle.std.proofs.Common.{List, ℕ, Option, ap, sym, subst, refl}
use Rattle.std.specs.Prelude.{IsSome}
use Rattle.std.specs.BTreeMap.{get}
use Rattle.esc_zone.specs.declared.draft.Place.{Place}
use Rattle.esc_zone.specs.Names.{name_cmp}
use Rattle.esc_zone.specs.Noted.{DraftNotes, PlaceNotes, draft_notes, place_notes}
use Rattle.esc_zone.proofs.Noting.{noted_same}
use Rattle.esc_zone.proofs.draft.Draft.mark_original.Goals as goal

pub returns-in-Some : goal.returns-in-Some
returns-in-Some c =
    let d : DraftNotes = draft_notes c.args.self.now in
    let m = c.args.self.now.places in
    let w = c.set_original.new.place in
    let some = subst (λ (o : Option Place). IsSome o) c.in-Some.ensures.value refl in
    ap (λ (places : List ℕ → Option PlaceNotes). record d { places = places })
    (fun_ext (noted_same place_notes (get name_cmp m) (get name_cmp (c.get_mut.follows.lender w)) c.in-Some.place.now w
    c.args.name.now (sym c.in-Some.ensures.value) c.set_original.ensures ((c.get_mut.follows.holds w).3 some).0))
