use Rattle.esc_sql.proofs.Calls.{rules, survives_weaker, each_err, begin_ends, begin_shows, begin_keeps}
use Rattle.esc_sql.proofs.Calls.{begin_commits_none, fails_keeps}
use Rattle.esc_sql.proofs.transaction.begin_in.Goals as goal

pub returns-in_err-execute : goal.returns-in_err-execute
returns-in_err-execute g c = record {
  begun = search rules;
  autocommit = λ clean out. each_err _ _ (begin_ends _ _ _ (c.in_err-execute.ensures.runs clean) out);
  kept = λ clean. fails_keeps _ _ _ _ (c.in_err-execute.ensures.runs clean);
  survives = survives_weaker _ _ _ _ (λ clean. begin_commits_none _) c.execute.ensures.survives;
}

pub returns : goal.returns
returns g c = record {
  begun = λ clean. begin_shows _ _ _ (c.in_ok-execute.ensures.runs clean);
  autocommit = λ clean out. tt;
  kept = λ clean. begin_keeps _ _ _ (c.in_ok-execute.ensures.runs clean);
  survives = survives_weaker _ _ _ _ (λ clean. begin_commits_none _) c.execute.ensures.survives;
}
