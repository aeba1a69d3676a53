use Rattle.std.proofs.Common.{◌∙◌, List, String, Global, string_bytes, sym, ap}
use Rattle.std.specs.List.{list_any}
use Rattle.esc_acceptance.specs.Guides.{is_disguised, has_disguised_field}
use Rattle.esc_bundle.specs.ListLaws.{list_any_map}
use Rattle.esc_envelope.specs.EnvelopeValue.{TableValue}
use Rattle.esc_acceptance.proofs.guides.has_disguised_field.Goals as goal

pub returns : goal.returns
returns c =
    let name = c.args.field.now in
    let items = c.table.inside.fields.items in
    c.is_among_disguised.ensures
    ∙ ap (λ (fs : List (String Global)). list_any (λ n. is_disguised (string_bytes n) name) fs)
    c.deref.ensures.value
    ∙ sym (list_any_map (λ n. is_disguised n name) string_bytes items)
    ∙ ap (λ (t : TableValue). has_disguised_field name t) c.table.view_is
