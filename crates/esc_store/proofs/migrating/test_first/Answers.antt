use Rattle.esc_store.proofs.Common.{inr, refl, IfOk-at_ok}
use Rattle.esc_store.specs.FirstVersion.{IsFirstStore}
use Rattle.esc_store.proofs.OpeningLemmas.{version_refused}
use Rattle.esc_store.proofs.migrating.test_first.Goals as goal

pub returns-then-ne-clause-never : goal.returns-then-ne-clause-never
unfolding IsFirstStore
returns-then-ne-clause-never g c = λ is clean up settled k stored.
    let said = IfOk-at_ok _ c.in_ok-find_version.was (c.find_version.ensures.read.said clean) in
    version_refused c.in_ok-find_version.field-0 (settled.1 said.1.0.was_open)
    said.0 (inr c.requires.tables) stored.tables.rows.info refl c.if-ne.ensures
