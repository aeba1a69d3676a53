use mathlib.Core.Path.{fun_ext}
use Rattle.std.proofs.Common.{List, ℕ, Option, ap, true, false, ◌≡◌, rules}
use Rattle.std.specs.Prelude.{is_some}
use Rattle.std.specs.BTreeMap.{get}
use Rattle.esc_zone.specs.Names.{name_cmp}
use Rattle.esc_zone.specs.Noted.{DraftNotes, PlaceNotes, draft_notes, place_notes, new_place}
use Rattle.esc_zone.proofs.Noting.{noted_first, noted_again}
use Rattle.esc_zone.proofs.draft.Draft.note_place.Goals as goal

pub returns-then-contains_key : goal.returns-then-contains_key
returns-then-contains_key c =
    let d : DraftNotes = draft_notes c.args.self.now in
    let m = c.args.self.now.places in
    let has : is_some (get name_cmp m c.args.name) ≡ true = search rules in
    ap (λ (places : List ℕ → Option PlaceNotes). record d { places = places })
    (fun_ext (noted_again place_notes (get name_cmp m) new_place c.args.name has))

pub returns : goal.returns
returns c =
    let d : DraftNotes = draft_notes c.args.self.now in
    let m = c.args.self.now.places in
    let v = c.empty_place.result in
    let none : is_some (get name_cmp m c.args.name) ≡ false = search rules in
    ap (λ (places : List ℕ → Option PlaceNotes). record d { places = places })
    (fun_ext (noted_first place_notes (get name_cmp m) (get name_cmp c.insert.new.self) v new_place c.args.name
    none c.empty_place.ensures c.in_ok-insert.ensures.updates.0))
