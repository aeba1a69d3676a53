use Rattle.std.proofs.Common.{◌≡◌, take, map}
use Rattle.std.specs.Prelude.{filter_map}
use Rattle.esc_zone.specs.Noted.{attribute_value, said_in_row, draft_notes}
use Rattle.esc_zone.proofs.draft.Draft.attributes.Given as goal

abbrev pub invariant-loop-row : goal.invariant-loop-row
invariant-loop-row l = map attribute_value l.attributes.items
    ≡ filter_map (said_in_row (draft_notes l.self)) (take l.row-index l.rows)
