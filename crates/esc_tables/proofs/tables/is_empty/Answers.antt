use Rattle.std.proofs.Common.{ℕ, List, length, ap, sym, ◌∙◌}
use Rattle.std.specs.Prelude.{◌==◌}
use Rattle.esc_bundle.specs.Bundle.{views}
use Rattle.esc_envelope.specs.EnvelopeValue.{TableValue}
use Rattle.esc_tables.specs.TableRow.{bytes_named}
use Rattle.esc_tables.proofs.SurveyFacts.{no_rows}
use Rattle.esc_tables.proofs.tables.is_empty.Goals as goal

pub returns : goal.returns
returns c is =
    let files = views c.args.files.now in
    let same = c.bytes_named.ensures ∙ ap (bytes_named files)
    (c.as_str.ensures.value ∙ ap (λ (t : TableValue). t.file) c.table.view_is) in
    no_rows files c.args.table.now
    (ap (λ (bytes : List ℕ). length bytes == 0) (sym same) ∙ sym c.is_empty.ensures ∙ is)
