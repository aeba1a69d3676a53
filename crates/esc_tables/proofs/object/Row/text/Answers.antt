use Rattle.std.proofs.Common.{sym, ◌∙◌}
use Rattle.esc_tables.proofs.Cells.{Cell, text_there, text_further, no_cell}
use Rattle.esc_tables.proofs.object.Row.text.Goals.{in-Some+else-eq, in_default}
use Rattle.esc_tables.proofs.object.Row.text.Goals as goal

pub returns-then-eq : goal.returns-then-eq
returns-then-eq c =
    let x : Cell = (c.in-Some.name.now, c.in-Some.text.now) in
    sym (text_there c.args.field.now c.args.self.now.cells
    c.loop-at.at x c.in-Some.ensures (sym c.eq.ensures ∙ c.if-eq.true)) ∙ c.loop-at.invariant

pub loop-at-preserved : goal.loop-at-preserved
loop-at-preserved c =
    let cells = c.args.self.now.cells in
    let at = c.loop-at.at in
    elim c.match-cell.branch [
      | in-Some+else-eq w ↦
          (let x : Cell = (w.in-Some.name.now, w.in-Some.text.now) in
          sym (text_further c.args.field.now
          cells at x w.in-Some.ensures (sym w.eq.ensures ∙ w.if-eq.false)) ∙ c.loop-at.invariant)
      | in_default w ↦ absurd (no_cell
          cells at c.len-at-end.result c.len-at-end.ensures c.loop-at-test.true w.in_default.ensures)
    ]
