use Rattle.std.proofs.Common.{◌≡◌, take}
use Rattle.esc_zone.specs.Delegations.{texts_of}
use Rattle.esc_zone.specs.Noted.{draft_notes, with_noted, is_server_among, is_above_uses}
use Rattle.esc_zone.proofs.draft.Draft.note_uses.Given as goal

abbrev pub invariant-loop-text : goal.invariant-loop-text
invariant-loop-text l =
    let d = draft_notes l.fn.self in
    let front = texts_of (take l.text-index l.texts) in
    draft_notes l.self ≡ with_noted (is_server_among d.settings front) (is_above_uses d.settings l.name front) d
