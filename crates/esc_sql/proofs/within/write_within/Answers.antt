use Rattle.esc_sql.proofs.Calls.{Ok, sym, ap, subst, ◌∙◌, Err, IsTrue, rules, survives_weaker}
use Rattle.esc_sql.proofs.Calls.{RunsInside, within, commits_none}
use Rattle.std.proofs.lemmas.Result.{err_from_is_err_and}
use Rattle.esc_sql.proofs.within.write_within.Goals as goal

pub returns-in_err-execute : goal.returns-in_err-execute
returns-in_err-execute g c =
    let inside : IsTrue c.args.conn.now.in_transaction = search rules in
    let is = err_from_is_err_and c.from_residual.result c.from_residual.ensures.1 in
    record {
      ended = search rules;
      runs = λ writes clean _.
          subst (RunsInside _ _ _ _) (sym (is.1 ∙ ap (λ e. Err e) is.2)) (within _ _
          _ writes inside _ (Err c.in_err-execute.field-0.0) (c.in_err-execute.ensures.runs clean));
      survives = λ writes. survives_weaker
          _ _ _ _ (λ clean. commits_none _ _ _ writes inside) c.execute.ensures.survives;
    }

pub returns-then-not-is_autocommit : goal.returns-then-not-is_autocommit
returns-then-not-is_autocommit g c =
    let inside : IsTrue c.args.conn.now.in_transaction = search rules in
    record {
      ended = search rules;
      runs = λ writes clean _. (
        c.in_ok-execute.field-0,
        within _ _ _ writes inside _ (Ok _) (c.in_ok-execute.ensures.runs clean),
      );
      survives = λ writes. survives_weaker
          _ _ _ _ (λ clean. commits_none _ _ _ writes inside) c.execute.ensures.survives;
    }
