use Rattle.esc_sql.proofs.Common.{Ok, state, Error, IsPart, Builds, no_schema, schema_of}
use Rattle.esc_sql.proofs.create.create_tables.Given as goal

abbrev pub invariant-loop-at : goal.invariant-loop-at
invariant-loop-at g l = IsPart {X = Unit {0}} {E = Error} (state g.S.Store l.fn.conn)
    (state g.S.Store l.conn) (Builds no_schema (schema_of l.at)) (Ok tt)
