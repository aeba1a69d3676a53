use Rattle.std.proofs.Common.{sym, ap, ◌∙◌, length}
use Rattle.csv.specs.Records.{fields_of}
use Rattle.esc_tables.specs.ObjectValue.{RowValue}
use Rattle.esc_tables.proofs.FieldFacts.{all_cells}
use Rattle.esc_tables.proofs.object.Row.len.Goals as goal

pub returns : goal.returns
returns c =
    c.len.ensures ∙ sym
    (all_cells c.self.inside.heading.value.fields (fields_of c.self.inside.texts) c.self.invariant)
    ∙ ap (λ (r : RowValue). length r.cells) c.self.view_is
