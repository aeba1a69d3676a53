use Rattle.esc_store.proofs.Common.{◌∙◌, ap, unwrap_or, Represents, HoldsKept, HasMadeBooksIn, LeavesOnly}
use Rattle.esc_store.proofs.Ends.{none_remembered}
use Rattle.std.proofs.Common.{rules}
use Rattle.esc_store.proofs.change.Change+S.commit.Goals as goal

pub returns-clause-committed : goal.returns-clause-committed
unfolding Represents HoldsKept HasMadeBooksIn LeavesOnly
returns-clause-committed g c = record {
  manifest = rw c.take_over.ensures (ap (unwrap_or c.args.self.listing) c.commit_here.ensures.manifest);
  writes = search rules;
  stands = λ before k s rest holds. rw c.take_over.ensures (record {
    listed = ap (unwrap_or c.args.self.listing) c.commit_here.ensures.manifest ∙ rest.listed;
    rests = c.in_ok-commit_here.ensures.committed c.args.self.listing before k s rest holds;
    remembered = rw c.commit_here.ensures.remembered (λ clean. none_remembered k);
  });
  left = λ before k s rest holds. rw c.take_over.ensures
      (c.in_ok-commit_here.ensures.left c.args.self.listing before k s rest holds);
}
