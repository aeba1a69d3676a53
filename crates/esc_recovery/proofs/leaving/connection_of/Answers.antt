use Rattle.std.proofs.Common.{ap, ◌∙◌}
use Rattle.esc_recovery.proofs.leaving.connection_of.Goals as goal

pub returns-clause-same : goal.returns-clause-same
returns-clause-same g c = c.into_connection.ensures.same ∙ ap (λ s. s.conn) c.into_store.ensures.same

pub returns-clause-rests : goal.returns-clause-rests
returns-clause-rests g c = λ e serves.
    let was = c.into_store.ensures.serves e serves in
    record {
      kept = was.kept;
      holds = c.into_connection.ensures.holds was.kept was.stands;
      stands_for = was.stands_for;
    }
