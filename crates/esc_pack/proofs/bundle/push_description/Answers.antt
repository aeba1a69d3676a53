use Rattle.std.proofs.Common.{◌≡◌, ◌∙◌, ◌++◌, ◌∷◌, [], map, string_bytes, ap, rules}
use Rattle.std.proofs.lemmas.List.{map_push}
use Rattle.esc_bundle.specs.Bundle.{Named, envelope_name}
use Rattle.esc_bundle.specs.Writing.{named}
use Rattle.esc_pack.specs.Bundling.{description_section}
use Rattle.esc_pack.proofs.bundle.push_description.Goals as goal

pub returns : goal.returns
returns c =
    let sections = c.args.sections.now.items in
    let name : string_bytes c.in_ok-name.name ≡ envelope_name = search rules in
    let bytes : c.in_ok-from_slice.field-0.items ≡ c.args.description.now = search rules in
    let told : named (c.in_ok-name.name, c.in_ok-from_slice.field-0) ≡ description_section c.args.description.now =
    λ i. record { name = name i; bytes = bytes i } in
    ap (map named) c.in_ok-push.ensures.items
    ∙ map_push named sections (c.in_ok-name.name, c.in_ok-from_slice.field-0)
    ∙ ap (λ (s : Named). map named sections ++ s ∷ []) told
