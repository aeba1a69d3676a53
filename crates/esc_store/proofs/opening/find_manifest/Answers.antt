use Rattle.esc_store.proofs.Common.{content_in, IsStore}
use Rattle.esc_sql.specs.Content.{AreStoreTrees}
use Rattle.esc_store.proofs.OpeningLemmas.{at_rest, tables_refused}
use Rattle.esc_store.proofs.opening.find_manifest.Goals as goal

pub returns-then-not-has_tables-clause-never : goal.returns-then-not-has_tables-clause-never
unfolding IsStore
returns-then-not-has_tables-clause-never g c = λ is clean up k stored.
    let settled = at_rest c.is_autocommit.ensures.value c.is_autocommit.ensures.settled c.if-not-is_autocommit.false in
    tables_refused AreStoreTrees
    content_in c.has_tables.ensures.found (settled.1 up) c.if-not-has_tables.true up stored.tables
