use Rattle.esc_zone.specs.Names.{name_above, name_eq}
use Rattle.esc_zone.specs.Noted.{draft_notes, is_among_names, zone_names}
use Rattle.esc_zone.proofs.Taken.{names_more}
use Rattle.esc_zone.proofs.draft.Draft.note_with_above.Goals as goal

pub returns : goal.returns
returns c =
    let d = draft_notes c.args.self.now in
    let above = is_among_names (zone_names d.settings (name_above c.args.name)) in
    names_more d (draft_notes c.note_above.new.self) (draft_notes c.note_place.new.self)
    (above, c.in_ok-note_above.ensures) (name_eq c.args.name, c.in_ok-note_place.ensures)
