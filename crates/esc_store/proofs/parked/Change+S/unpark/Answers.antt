use Rattle.esc_store.proofs.Common.{refl}
use Rattle.esc_store.proofs.Parking.{unpark_turns, books_parked}
use Rattle.esc_store.proofs.Parts.{registry_same}
use Rattle.esc_store.proofs.Following.{moved, part_step, lists_same}
use Rattle.esc_store.proofs.parked.Change+S.unpark.Goals as goal

pub returns-clause-part : goal.returns-clause-part
returns-clause-part g c =
    part_step (moved c.settle.ensures c.delete_parked-done.ensures.part (unpark_turns _))
    (λ _. refl) (λ k. books_parked k _ _) (λ _ _ _ turn. registry_same turn.only refl refl)

pub returns-clause-listed : goal.returns-clause-listed
returns-clause-listed g c = lists_same
    c.args.self.now (moved c.settle.ensures c.delete_parked-done.ensures.part (unpark_turns _))
