use Rattle.esc_sql.proofs.Common.{map, take, Ok, state, Error, IsPart, listed_row}
use Rattle.esc_sql.specs.Creation.{MakesFirst}
use Rattle.esc_sql.proofs.create.build.Given as goal

abbrev pub invariant-loop-at : goal.invariant-loop-at
invariant-loop-at g l = IsPart {X = Unit {0}} {E = Error} (state g.S.Store l.fn.conn) (state
    g.S.Store l.conn) (MakesFirst (map listed_row l.rows) (map listed_row (take l.at l.rows))) (Ok tt)
