use Rattle.esc_sql.proofs.Calls.{IsTrue, rules, survives_weaker, within, commits_none}
use Rattle.esc_sql.proofs.within.count_within.Goals as goal

pub returns-clause-runs : goal.returns-clause-runs
returns-clause-runs g c writes clean inside =
    within _ _ _ writes inside _ c.execute.result (c.execute.ensures.runs clean)

pub returns-clause-survives : goal.returns-clause-survives
returns-clause-survives g c writes =
    let inside : IsTrue c.args.conn.now.in_transaction = search rules in
    survives_weaker _ _ _ _ (λ clean. commits_none _ _ _ writes inside) c.execute.ensures.survives
