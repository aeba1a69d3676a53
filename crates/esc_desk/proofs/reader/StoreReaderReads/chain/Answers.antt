use Rattle.std.proofs.lemmas.Result.{IfOk-weaker}
use Rattle.esc_desk.proofs.ReadLemmas.{same_steps}
use Rattle.esc_desk.proofs.reader.StoreReaderReads.chain.Goals as goal

pub returns-clause-steps : goal.returns-clause-steps
returns-clause-steps g c = λ clean e serves.
    IfOk-weaker c.chain.result _ _ (λ steps are. same_steps e serves.kept
    serves.stands_for steps.items are) (c.chain.ensures.steps clean serves.kept serves.stands)
