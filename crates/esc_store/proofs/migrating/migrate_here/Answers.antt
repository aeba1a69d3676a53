use Rattle.esc_store.proofs.Common.{state}
use Rattle.esc_store.proofs.Ends.{survives_first}
use Rattle.esc_sql.specs.FirstVersion.{first_content_in, AreFirstTrees}
use Rattle.esc_store.specs.FirstVersion.{IsFirstStore}
use Rattle.esc_store.proofs.OpeningLemmas.{sees_committed, at_rest, tables_refused}
use Rattle.esc_store.proofs.migrating.migrate_here.Goals as goal

pub returns-in-Ok-clause-survives : goal.returns-in-Ok-clause-survives
returns-in-Ok-clause-survives g c = λ k stored.
    c.migrate_whole.ensures.survives
    k (sees_committed (state g.S.Store c.args.conn.now) (at_rest c.is_autocommit.ensures.value
    c.is_autocommit.ensures.settled c.if-not-is_autocommit.false) stored)

pub returns-in-Ok-clause-left : goal.returns-in-Ok-clause-left
returns-in-Ok-clause-left g c = λ k stored.
    c.in-Ok.ensures.left
    k (sees_committed (state g.S.Store c.args.conn.now) (at_rest c.is_autocommit.ensures.value
    c.is_autocommit.ensures.settled c.if-not-is_autocommit.false) stored)

pub returns-in-Err-clause-survives : goal.returns-in-Err-clause-survives
returns-in-Err-clause-survives g c = λ k stored.
    let settled = at_rest c.is_autocommit.ensures.value c.is_autocommit.ensures.settled c.if-not-is_autocommit.false in
    survives_first (c.migrate_whole.ensures.survives k
    (sees_committed (state g.S.Store c.args.conn.now) settled stored)) c.give_up_in.ensures.survives

pub returns-then-not-has_first_tables-clause-never : goal.returns-then-not-has_first_tables-clause-never
unfolding IsFirstStore
returns-then-not-has_first_tables-clause-never g c = λ is clean up k stored.
    let settled = at_rest c.is_autocommit.ensures.value c.is_autocommit.ensures.settled c.if-not-is_autocommit.false in
    tables_refused AreFirstTrees first_content_in
    c.has_first_tables.ensures.found (settled.1 up) c.if-not-has_first_tables.true up stored.tables
