use Rattle.std.proofs.Common.{subst}
use Rattle.sqlite.specs.Files.{file_state}
use Rattle.sqlite.specs.Start.{FindsIn}
use Rattle.esc_recovery.proofs.Untouched.{untouched}
use Rattle.esc_recovery.proofs.connecting.connection_at.Goals as goal

pub returns-in-Ok-clause-found : goal.returns-in-Ok-clause-found
returns-in-Ok-clause-found g c = λ clean.
    let (log, db) = c.in_ok-files.ensures.fresh in
    let found = c.in-Ok.ensures.found clean in
    subst (λ i. FindsIn i (file_state c.in-Ok.connection)) (untouched g.S.Start.log g.S.Start.db log db)
    (record { holds = found.holds; reads = found.reads })
