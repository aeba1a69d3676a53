use Rattle.std.proofs.Common.{sym, ◌∙◌}
use Rattle.esc_record.specs.Record.{is_small_cell, cell_bytes}
use Rattle.esc_record.proofs.Pushed.{pushed_next, too_large}
use Rattle.esc_record.proofs.writing.push_cells.Goals as goal

pub returns-then-not-branch : goal.returns-then-not-branch
returns-then-not-branch c = (
  sym (too_large is_small_cell c.args.row.now.cells
      c.loop-at.at (c.in-Some.field.now, c.in-Some.text.now) (sym c.in-Some.ensures)
      (sym c.in_ok-push_cell.ensures.0 ∙ c.if-not-branch.true)),
  λ fits. absurd cc,
)

pub loop-at-preserved : goal.loop-at-preserved
loop-at-preserved c =
    pushed_next is_small_cell cell_bytes c.args.row.now.cells c.args.bytes.now.items c.loop-at.at
    c.loop-at.bytes.items c.push_cell.new.bytes.items (c.in-Some.field.now, c.in-Some.text.now)
    c.loop-at.invariant (sym c.in-Some.ensures) (sym c.in_ok-push_cell.ensures.0
    ∙ c.if-not-branch.false) (c.in_ok-push_cell.ensures.1 c.if-not-branch.false)
