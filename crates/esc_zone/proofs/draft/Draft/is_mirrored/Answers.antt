use Rattle.std.proofs.Common.{◌≡◌, sym, subst}
use Rattle.std.specs.Prelude.{◌↔◌, IsTrue}
use Rattle.esc_zone.specs.Noted.{PlaceNotes, draft_notes, place_notes, IsMirroredPlace}
use Rattle.esc_zone.proofs.Settled.{seen_value, seen_none}
use Rattle.esc_zone.proofs.draft.Draft.is_mirrored.Goals as goal

pub returns-in-Some : goal.returns-in-Some
returns-in-Some c = λ p e.
    let d = draft_notes c.args.self.now in
    subst (λ (x : PlaceNotes). IsTrue c.is_mirror.result ↔ IsMirroredPlace d x)
    (seen_value place_notes _ c.in-Some.place.now p (sym c.in-Some.ensures.value) e) c.is_mirror.ensures

pub returns-in-None : goal.returns-in-None
returns-in-None c = λ p e. absurd (seen_none place_notes _ p (sym c.in-None.ensures.value) e)
