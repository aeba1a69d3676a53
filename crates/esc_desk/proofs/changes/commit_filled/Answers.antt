use Rattle.std.proofs.lemmas.Result.{on_ok_weaker}
use Rattle.esc_desk.proofs.CrashSteps.{holds_when}
use Rattle.esc_desk.proofs.changes.commit_filled.Goals as goal

pub returns-clause-made : goal.returns-clause-made
returns-clause-made g c = on_ok_weaker c.commit.result (λ committed. λ before k filled.
    let holds = holds_when g.S.Store c.args.change k.registry filled.holds in (
      committed.left before k filled.tables filled.rest holds,
      λ clean. committed.stands before k filled.tables filled.rest holds,
    )) c.commit.ensures.committed

pub returns-clause-crash : goal.returns-clause-crash
returns-clause-crash g c = λ before k filled. c.commit.ensures.crash
    before k filled.tables filled.rest (holds_when g.S.Store c.args.change k.registry filled.holds)

pub returns-clause-written : goal.returns-clause-written
returns-clause-written g c = on_ok_weaker c.commit.result (λ committed. committed.writes) c.commit.ensures.committed
