use Rattle.esc_store.proofs.Common.{◌∙◌, IfOk-at_ok, IfErr-weaker, if_goes, was_clean, Represents}
use Rattle.esc_store.proofs.Common.{HoldsKept, BeganIn, HasMadeBooksIn, HasMadeTablesIn, LeavesOr}
use Rattle.esc_store.proofs.Common.{LeavesOnly}
use Rattle.esc_store.proofs.Ends.{at_err, whole, committed, crash, left, still_stands, survives_first}
use Rattle.esc_store.proofs.Ends.{keeps_then, begun_committed, none_remembered}
use Rattle.esc_store.proofs.store.Store.commit_here.Goals as goal

pub returns : goal.returns
unfolding Represents HoldsKept BeganIn HasMadeBooksIn HasMadeTablesIn LeavesOr LeavesOnly
returns g c =
    let commit = c.commit_in-committed.ensures in
    let settle = c.settle.ensures in
    record {
      manifest = settle.manifest;
      writes = settle.writes;
      remembered = settle.remembered;
      honest = λ clean. was_clean commit.survives (was_clean settle.settled.survives clean);
      committed = if_goes c.settle.result _
          _ settle.settled.ok (λ x p listing before k s rest holds. rw p.1 (committed (whole rest holds)
          commit.survives (λ clean. IfOk-at_ok _ p.0 (commit.committed clean))));
      kept = IfErr-weaker c.settle.result
          _ _ (λ e p before begun. still_stands (survives_first commit.survives p.1.survives)
          (λ clean. keeps_then _ _
          _ (at_err c.commit_in-committed.result _ p.0 (commit.kept (was_clean p.1.survives clean)))
          (p.1.kept clean)) (λ clean _. (p.1.ended clean, p.1.settled clean))
          (settle.manifest ∙ begun.listed) (begun_committed _ _ before begun)
          settle.remembered (λ clean. none_remembered before)) settle.settled.err;
      crash = λ listing before k s rest holds. survives_first (crash (whole rest holds) commit.survives)
          settle.settled.survives;
      left = if_goes c.settle.result
          _ _ settle.settled.ok (λ x p listing before k s rest holds. rw p.1 (left (whole rest holds)
          commit.survives (λ clean. IfOk-at_ok _ p.0 (commit.committed clean)) commit.only));
      cause = settle.cause;
    }
