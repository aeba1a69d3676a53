use Rattle.std.proofs.Common.{get_or, ap, ◌∙◌}
use Rattle.std.specs.FinSet as set
use Rattle.esc_chain.specs.Chain.{Rows}
use Rattle.esc_chain.proofs.HeldRows.{one_more_row}
use Rattle.esc_chain.proofs.held.Held.from_rows.Goals as goal

pub loop-row-init : goal.loop-row-init
loop-row-init c = record { rows = c.new-held.ensures.empty; in_range = c.new-held.ensures.in_range c.args.manifest.now }

pub loop-row-preserved : goal.loop-row-preserved
loop-row-preserved c =
    let i = c.loop-row.row-index in
    let x = get_or c.args.rows.now i 0 in
    record {
      rows = c.in_ok-insert.ensures.ok ∙ ap (λ (h : Rows). set.insert h x) c.loop-row.invariant.rows
          ∙ one_more_row c.args.rows.now i c.loop-row-test.true;
      in_range = c.insert.ensures.in_range c.loop-row.invariant.in_range;
    }
