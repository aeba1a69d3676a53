use Rattle.std.proofs.Common.{subst}
use Rattle.sqlite_trees.specs.View.{IsQuiet}
use Rattle.esc_recovery.proofs.leaving.store_below.Goals as goal

pub returns-clause-quiet : goal.returns-clause-quiet
returns-clause-quiet g c =
    subst (λ h. IsQuiet g.S.Store.view g.S.Store.faults g.S.Store.recovers g.S.Store.is_shielded
    h.store c.into_store.result) c.connection_of.ensures.same c.into_store.ensures.quiet
