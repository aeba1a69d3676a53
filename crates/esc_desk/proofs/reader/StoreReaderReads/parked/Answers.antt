use Rattle.std.proofs.lemmas.Result.{IfOk-weaker}
use Rattle.esc_desk.proofs.ReadLemmas.{same_parked}
use Rattle.esc_desk.proofs.reader.StoreReaderReads.parked.Goals as goal

pub returns-clause-bodies : goal.returns-clause-bodies
returns-clause-bodies g c = λ clean e reflects.
    IfOk-weaker c.parked.result _ _ (λ bodies are. same_parked e reflects.kept reflects.stands_for
    bodies.items are) (c.parked.ensures.bodies clean reflects.kept reflects.stands)
