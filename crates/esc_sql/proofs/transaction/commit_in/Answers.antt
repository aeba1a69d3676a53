use Rattle.esc_sql.proofs.Calls.{rules, survives_weaker, each_err, commit_shows, commit_leaves}
use Rattle.esc_sql.proofs.Calls.{commit_ends, fails_keeps}
use Rattle.esc_sql.proofs.transaction.commit_in.Goals as goal

pub returns-in_err-execute : goal.returns-in_err-execute
returns-in_err-execute g c = record {
  ended = λ clean. commit_ends _ _ _ (c.in_err-execute.ensures.runs clean);
  committed = search rules;
  kept = λ clean. each_err _ _ (fails_keeps _ _ _ _ (c.in_err-execute.ensures.runs clean));
  only = λ up trees may. g.met.S.Store.settled c.execute.new.self.store trees up may;
  survives = survives_weaker _ _ _ _ (λ clean. commit_leaves _) c.execute.ensures.survives;
}

pub returns : goal.returns
returns g c = record {
  ended = λ clean. (commit_shows _ _ _ (c.in_ok-execute.ensures.runs clean)).mode;
  committed = λ clean. commit_shows _ _ _ (c.in_ok-execute.ensures.runs clean);
  kept = λ clean. tt;
  only = λ up trees may. g.met.S.Store.settled c.execute.new.self.store trees up may;
  survives = survives_weaker _ _ _ _ (λ clean. commit_leaves _) c.execute.ensures.survives;
}
