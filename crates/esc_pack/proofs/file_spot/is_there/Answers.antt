use Rattle.std.proofs.Common.{sym, ◌∙◌, ap, List, ℕ}
use Rattle.std.specs.List.{list_any}
use Rattle.std.specs.Str.{bytes_eq}
use Rattle.esc_bundle.specs.Bundle.{view}
use Rattle.esc_bundle.specs.ListLaws.{list_any_map}
use Rattle.esc_envelope.specs.EnvelopeValue.{TableValue}
use Rattle.esc_pack.proofs.file_spot.is_there.Goals as goal

pub returns : goal.returns
returns c =
    let named = c.as_str.ensures.value ∙ ap (λ (t : TableValue). t.file) c.table.view_is in
    let raw = λ (name : List ℕ). list_any (λ s. bytes_eq s.name.now name) c.args.files.now in
    c.is_among.ensures ∙ ap raw named
    ∙ sym (list_any_map (λ s. bytes_eq s.name c.args.table.now.file) view c.args.files.now)
