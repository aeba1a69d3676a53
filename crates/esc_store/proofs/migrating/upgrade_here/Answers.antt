use Rattle.esc_store.proofs.Common.{sym, subst, IfOk-at_ok, state, IsFirstDatabase, was_clean, if_ok}
use Rattle.esc_sql.specs.FirstVersion.{first_content_in}
use Rattle.esc_store.proofs.Ends.{holds_store}
use Rattle.esc_store.proofs.migrating.upgrade_here.Goals as goal

pub returns-clause-upgraded : goal.returns-clause-upgraded
returns-clause-upgraded g c = if_ok c.upgrade.result _ (λ x is clean k first.
    let begun = c.in_ok-begin_in.ensures.begun (was_clean c.upgrade.ensures.part.survives clean) in
    let was = subst (λ db. IsFirstDatabase db k) (sym begun.0.now_is) first in
    let now = (IfOk-at_ok _ is (c.upgrade.ensures.part.made clean)).0
    _ (record { schema_is = was.schema; store = was.kept.tables }) in
    holds_store _ (first_content_in (state g.S.Store c.begin_in.new.conn).now.trees)
    k now was.kept.books was.kept.registry)
