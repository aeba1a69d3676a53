use Rattle.std.proofs.Common.{◌≡◌, List, ℕ, sym, ap, ◌∙◌, slice_get}
use Rattle.std.specs.List.{zip}
use Rattle.csv.specs.Records.{fields_of}
use Rattle.esc_tables.specs.ObjectValue.{RowValue, HeadingValue}
use Rattle.esc_tables.proofs.FieldFacts.{cell_is, no_name, no_text}
use Rattle.esc_tables.proofs.object.Row.cell.Goals as goal

pub returns-in_err-field : goal.returns-in_err-field
returns-in_err-field c =
    let names : List (List ℕ) = fields_of c.behind-self.inside.fields in
    let texts : List (List ℕ) = fields_of c.self.inside.texts in
    let same : names ≡ c.self.inside.heading.value.fields =
    ap (λ (h : HeadingValue). h.fields) (c.behind-self.view_is ∙ c.as_ref.ensures) in
    rw c.from_residual.ensures (sym (no_name names texts c.args.at c.in_err-field.ensures.value)
    ∙ ap (λ (ns : List (List ℕ)). slice_get (zip ns texts) c.args.at) same
    ∙ ap (λ (r : RowValue). slice_get r.cells c.args.at) c.self.view_is)

pub returns-in_err-text : goal.returns-in_err-text
returns-in_err-text c =
    let names : List (List ℕ) = fields_of c.behind-self.inside.fields in
    let texts : List (List ℕ) = fields_of c.self.inside.texts in
    let same : names ≡ c.self.inside.heading.value.fields =
    ap (λ (h : HeadingValue). h.fields) (c.behind-self.view_is ∙ c.as_ref.ensures) in
    rw c.from_residual-in_err-text.ensures (sym (no_text names texts c.args.at
    c.in_err-text.ensures.value) ∙ ap (λ (ns : List (List ℕ)). slice_get (zip ns texts) c.args.at)
    same ∙ ap (λ (r : RowValue). slice_get r.cells c.args.at) c.self.view_is)

pub returns : goal.returns
returns c =
    let names : List (List ℕ) = fields_of c.behind-self.inside.fields in
    let texts : List (List ℕ) = fields_of c.self.inside.texts in
    let same : names ≡ c.self.inside.heading.value.fields =
    ap (λ (h : HeadingValue). h.fields) (c.behind-self.view_is ∙ c.as_ref.ensures) in
    sym (cell_is names texts c.args.at c.in_ok-field.field.now
    c.in_ok-text.text.now c.in_ok-field.ensures.value c.in_ok-text.ensures.value)
    ∙ ap (λ (ns : List (List ℕ)). slice_get (zip ns texts) c.args.at) same
    ∙ ap (λ (r : RowValue). slice_get r.cells c.args.at) c.self.view_is
