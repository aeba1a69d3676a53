use Rattle.std.proofs.Common.{◌∙◌, ap, sym, List, ℕ, Option, map, []}
use Rattle.std.specs.Option.{option_map, option_map_or}
use Rattle.std.proofs.lemmas.Result.{IfOk-weaker}
use Rattle.esc_zone.specs.declared.draft.Place.{Place}
use Rattle.esc_zone.specs.declared.draft.Attribute.{Attribute}
use Rattle.esc_zone.specs.Noted.{PlaceNotes, attribute_value, texts_for, place_notes}
use Rattle.esc_zone.proofs.draft.Draft.rows_of.Goals as goal

pub returns-in-Some : goal.returns-in-Some
returns-in-Some c =
    let host = c.args.host.now in
    IfOk-weaker c.said_for.result _ _
    (λ rows e. e
    ∙ ap (λ (l : List Attribute). texts_for (map attribute_value l) host) c.deref.ensures.value
    ∙ ap (λ (o : Option Place). option_map_or (λ (p : PlaceNotes). texts_for p.said host) (option_map place_notes o) [])
    c.in-Some.ensures.value)
    c.said_for.ensures
