use Rattle.std.proofs.lemmas.Result.{IfOk-weaker}
use Rattle.esc_desk.proofs.ReadLemmas.{desk_read, same_steps}
use Rattle.esc_desk.proofs.desk_reads.DeskReads.chain.Goals as goal

pub returns-clause-steps : goal.returns-clause-steps
returns-clause-steps g c = λ clean e serves.
    IfOk-weaker c.chain.result _ _ (λ steps are. same_steps e serves.kept
    serves.stands_for steps.items are) (c.chain.ensures.steps clean serves.kept serves.stands)

pub returns-clause-read : goal.returns-clause-read
returns-clause-read g c = desk_read g.S.Store c.args.self.now _ _ c.chain.ensures.same
