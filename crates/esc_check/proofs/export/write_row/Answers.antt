use Rattle.std.proofs.Common.{◌≡◌, ◌∷◌, [], ◌∙◌, ap, List, ◌++◌}
use Rattle.std.specs.Fmt.{decimal}
use Rattle.esc_envelope.specs.Kinds.{kind_name}
use Rattle.esc_csv.specs.Lines.{line_text}
use Rattle.esc_check.proofs.Cells.{Cell, cell_within}
use Rattle.esc_check.specs.WritingLaws.{front_added}
use Rattle.esc_check.proofs.Writing.{cells_more}
use Rattle.esc_check.proofs.export.write_row.Goals.{in-Some+in_ok-write_cell, in_default}
use Rattle.esc_check.proofs.export.write_row.Goals as goal

pub loop-at-preserved : goal.loop-at-preserved
loop-at-preserved c =
    let k = c.args.key.now in
    let row = c.args.row.now in
    let at = c.loop-at.at in
    elim c.match-cell.branch [
      | in-Some+in_ok-write_cell w ↦
          (let x : Cell = (w.in-Some.cell.0.now, w.in-Some.cell.1.now) in
          let number : w.as_str.result.now ≡ decimal c.args.number =
          w.as_str.ensures.value ∙ c.in_ok-text.ensures in
          let wrote = ap (λ (n : List _). c.loop-at.lines
          ++ line_text (kind_name k.kind ∷ k.text ∷ row.table ∷ n ∷ x.0 ∷ x.1 ∷ [])) number in
          front_added _ _ _ _ _ _ (cells_more k c.args.number row.table row.cells at x
          w.in-Some.ensures) c.loop-at.invariant (w.lines-is ∙ w.in_ok-write_cell.ensures ∙ wrote))
      | in_default w ↦ absurd (cell_within row.cells
          at c.len-at-end.result c.len-at-end.ensures c.loop-at-test.true w.in_default.ensures)
    ]
