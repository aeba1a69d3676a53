use Rattle.esc_sql.proofs.Calls.{◌<◌, ◌+◌, subst, length, map, take-map, length-map, get_or-map, arith}
use Rattle.esc_sql.proofs.Calls.{PutsListed, listed_row, parts, adds_next}
use Rattle.esc_sql.proofs.create.build.Goals as goal

pub loop-at-preserved : goal.loop-at-preserved
loop-at-preserved g c =
    let rows = c.args.rows.now in
    let at = c.loop-at.at in
    let r = c.index-rows-at.result in
    let low : at < length rows = omega (arith, c.loop-at-test.true) in
    parts c.loop-at.invariant c.in_ok-insert_listed.ensures.part
    (λ p q z first second empty up.
    let puts = rw (← get_or-map listed_row rows at r (listed_row r) low)
    at (subst (λ x. PutsListed (listed_row x) q z) c.index-rows-at.is second) in
    let holds = rw (← take-map listed_row at rows) at (first empty up) in
    rw (← take-map listed_row (at + 1) rows) (adds_next (map listed_row rows)
    at (listed_row r) q z (rw (length-map rows listed_row) low) up holds puts))
