use Rattle.std.proofs.Common.{ℕ, List, Bor, sym, ap, ◌∙◌, map, slice_get, arith, refl}
use Rattle.csv.specs.Records.{fields_of}
use Rattle.std.proofs.lemmas.List.{take_all}
use Rattle.esc_tables.proofs.Names.{named_at, one_more}
use Rattle.esc_tables.proofs.headings.have_names.Goals as goal

abbrev name_of : Bor (List ℕ) × Bor (List ℕ) → List ℕ
name_of cell = cell.0.now

pub returns-then-not-is_at : goal.returns-then-not-is_at
returns-then-not-is_at c = (
  λ is. absurd cc,
  λ same. sym c.if-not-is_at.true ∙ c.is_at.ensures.1
      (ap (λ (i : ℕ). slice_get (fields_of c.args.names.now) i) c.loop-cell.invariant.place
      ∙ ap (λ (names : List (List ℕ)). slice_get names c.loop-cell.cell-index) same
      ∙ named_at name_of c.args.cells.now c.loop-cell.cell-index _ c.loop-cell-test.true),
)

pub loop-cell-preserved : goal.loop-cell-preserved
loop-cell-preserved c = record {
  place = omega (arith, c.loop-cell.invariant.place);
  same = one_more name_of c.args.cells.now c.loop-cell.cell-index _ c.loop-cell-test.true (fields_of c.args.names.now)
      (ap (λ (i : ℕ). slice_get (fields_of c.args.names.now) i) (sym c.loop-cell.invariant.place)
      ∙ c.is_at.ensures.0 c.if-not-is_at.false) c.loop-cell.invariant.same;
}

pub returns : goal.returns
returns c = (
  λ is. sym (take_all _ _ (omega (arith, c.len.ensures, c.if-len-cells.false, c.loop-cell-test.false)))
      ∙ c.loop-cell.invariant.same ∙ ap (map name_of)
      (take_all c.loop-cell.cell-index c.args.cells.now c.loop-cell-test.false),
  λ same. refl,
)
