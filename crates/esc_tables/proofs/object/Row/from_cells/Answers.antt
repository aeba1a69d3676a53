use Rattle.std.proofs.Common.{◌≡◌, List, ℕ, Bor, sym, ap, ap₂, ◌∙◌, map, length}
use Rattle.std.specs.List.{zip}
use Rattle.std.proofs.lemmas.List.{length-map}
use Rattle.esc_tables.specs.ObjectValue.{HeadingValue, RowValue}
use Rattle.esc_tables.proofs.FieldFacts.{zip_images}
use Rattle.esc_tables.proofs.object.Row.from_cells.Goals as goal

pub invariant_of-result : goal.invariant_of-result
invariant_of-result c =
    let cells : List (Bor (List ℕ) × Bor (List ℕ)) = c.args.cells.now in
    ap length c.in_ok-texts.ensures ∙ length-map cells (λ c. c.1.now)
    ∙ sym (length-map cells (λ c. c.0.now))
    ∙ ap (λ (h : HeadingValue). length h.fields) (sym c.in_ok-heading.ensures)

pub returns : goal.returns
returns c =
    let cells : List (Bor (List ℕ) × Bor (List ℕ)) = c.args.cells.now in
    let row : HeadingValue → List (List ℕ)
    → RowValue = λ h xs. record { table = h.name; cells = zip h.fields xs } in
    ap₂ row c.in_ok-heading.ensures c.in_ok-texts.ensures
    ∙ ap (λ (ps : List (List ℕ × List ℕ)). record { table = c.args.table.now; cells = ps })
    (zip_images (λ c. c.0.now) (λ c. c.1.now) cells)
