use Rattle.esc_store.proofs.Common.{refl, if_ok}
use Rattle.esc_store.proofs.Parking.{park_turns, books_parked, was_free}
use Rattle.esc_store.proofs.Parts.{step_is, registry_same}
use Rattle.esc_store.proofs.Following.{moved, part_step, lists_same}
use Rattle.esc_store.proofs.parked.Change+S.park.Goals as goal

pub returns-clause-part : goal.returns-clause-part
returns-clause-part g c =
    part_step (moved c.settle.ensures c.insert_parked-done.ensures.part (park_turns _ _))
    (λ _. refl) (λ k. books_parked k _ _) (λ _ _ _ turn. registry_same turn.only refl refl)

pub returns-clause-listed : goal.returns-clause-listed
returns-clause-listed g c = lists_same
    c.args.self.now (moved c.settle.ensures c.insert_parked-done.ensures.part (park_turns _ _))

pub returns-clause-free : goal.returns-clause-free
returns-clause-free g c = if_ok c.settle.result _ (λ x is clean.
    was_free _ _ c.settle.new.self _ _ is (step_is c.settle.ensures.settled c.insert_parked-done.ensures.part) clean _)
