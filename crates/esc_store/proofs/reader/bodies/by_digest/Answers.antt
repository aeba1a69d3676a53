use Rattle.std.proofs.Common.{rules}
use Rattle.std.proofs.lemmas.List.Sorted.{answers_always}
use Rattle.esc_store.specs.declared.parked.ParkedBody.{ParkedBody}
use Rattle.esc_store.proofs.reader.bodies.by_digest.Goals as goal

pub returns-clause-sorted : goal.returns-clause-sorted
returns-clause-sorted c = c.sort_unstable_by_key.ensures.sorted (λ (b : ParkedBody). b.digest)
    (answers_always _ _ _ (λ f a r h q. search rules))
