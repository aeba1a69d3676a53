use Rattle.std.proofs.Common.{◌≡◌, ◌∙◌, ◌<◌, [], true, sym, length, arith, rules}
use Rattle.esc_acceptance.proofs.Places.{one_more}
use Rattle.esc_acceptance.proofs.same.has_same_cells.Goals as goal

pub loop-at-preserved : goal.loop-at-preserved
loop-at-preserved c =
    let row = c.args.row.now.cells in
    let other = c.args.other.now.cells in
    let among : c.loop-at.at < length row = omega (arith, c.len-at-end.ensures, c.loop-at-test.true) in
    let there : c.loop-at.at < length other = omega (arith, c.len.ensures, c.len-2.ensures, c.if-len.false, among) in
    let is_same : c.is_same_cell.result ≡ true = search rules in
    let same = sym c.cell.ensures ∙ c.is_same_cell.ensures is_same ∙ c.cell-in-loop-at.ensures in
    one_more row other c.loop-at.at ([], []) among there same c.loop-at.invariant
