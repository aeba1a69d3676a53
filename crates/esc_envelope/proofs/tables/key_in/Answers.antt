use Rattle.std.proofs.Common.{◌∙◌, ap, string_bytes}
use Rattle.std.specs.Prelude.{option_and_then, map}
use Rattle.esc_envelope.specs.DeclaredTables.{text_index}
use Rattle.esc_envelope.proofs.Distinct.{place_map}
use Rattle.esc_envelope.proofs.tables.key_in.Goals as goal

pub returns : goal.returns
returns c =
    c.place_of.ensures ∙ place_map string_bytes c.in_ok-text_at.field-0.now c.args.fields.now
    ∙ ap (option_and_then (text_index (map string_bytes c.args.fields.now))) c.in_ok-text_at.ensures
