use Rattle.std.proofs.Common.{◌≡◌, ◌∙◌, sym, ap, true}
use Rattle.std.specs.Option.{option_map}
use Rattle.esc_zone.specs.Noted.{PlaceNotes, place_notes}
use Rattle.esc_zone.proofs.Settled.{seen_value, seen_none}
use Rattle.esc_zone.proofs.Taken.{and_left, and_right, and_both}
use Rattle.esc_zone.proofs.draft.Draft.is_cut_domain.Goals as goal

pub returns-in-Some : goal.returns-in-Some
returns-in-Some c =
    let place = c.in-Some.place.now in
    let found = sym c.in-Some.ensures.value in (
      λ t.
          let both = sym c.is_cut_place.ensures ∙ t in (
            place_notes place,
            ap (option_map place_notes) found,
            and_left place.is_domain place.is_cut both,
            and_right place.is_domain place.is_cut both,
          ),
      λ x.
          let is = seen_value place_notes _ place x.0 found x.1 in
          c.is_cut_place.ensures ∙ and_both place.is_domain place.is_cut
          (ap (λ (p : PlaceNotes). p.is_domain) is ∙ x.2) (ap (λ (p : PlaceNotes). p.is_cut) is ∙ x.3),
    )

pub returns-in-None : goal.returns-in-None
returns-in-None c = (
  λ t. absurd (cc t),
  λ x. absurd (seen_none place_notes _ x.0 (sym c.in-None.ensures.value) x.1),
)
