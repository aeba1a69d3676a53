use Rattle.esc_sql.proofs.Calls.{survives_weaker, rollback_ends, rollback_keeps, rollback_undoes, rollback_commits_none}
use Rattle.esc_sql.proofs.transaction.abandon_in.Goals as goal

pub returns : goal.returns
returns g c = record {
  ended = λ clean. rollback_ends _ _ c.execute.result (c.execute.ensures.runs clean);
  kept = λ clean. rollback_keeps _ _ c.execute.result (c.execute.ensures.runs clean);
  undone = λ clean. rollback_undoes _ _ c.execute.result (c.execute.ensures.runs clean);
  survives = survives_weaker _ _ _ _ (λ clean. rollback_commits_none _) c.execute.ensures.survives;
}
