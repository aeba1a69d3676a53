use Rattle.esc_sql.proofs.Calls.{◌≡◌, arith, parts, part_as, builds}
use Rattle.esc_sql.proofs.create.create_tables.Goals as goal

pub loop-at-init : goal.loop-at-init
loop-at-init g c = part_as c.in_ok-create_table.ensures.part (builds 0 (omega arith))

pub loop-at-preserved : goal.loop-at-preserved
loop-at-preserved g c =
    let at = c.loop-at.at in
    parts c.loop-at.invariant c.in_ok-create_table-2.ensures.part
    (λ p q r first second was. builds at (omega (arith, c.loop-at-test.true)) q r second (first was))

pub returns : goal.returns
returns g c =
    let all : c.loop-at.at ≡ 9 = omega (arith, c.loop-at-test.false, c.loop-at.auto.at-end) in
    record { part = rw all at c.loop-at.invariant }
