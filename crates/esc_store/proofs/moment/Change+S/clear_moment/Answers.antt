use Rattle.esc_store.proofs.Common.{refl}
use Rattle.esc_store.proofs.Parking.{books_moment}
use Rattle.esc_store.proofs.Parts.{registry_same, become_turns}
use Rattle.esc_store.proofs.Following.{moved, part_step, lists_same}
use Rattle.esc_store.proofs.moment.Change+S.clear_moment.Goals as goal

pub returns-clause-part : goal.returns-clause-part
returns-clause-part g c = part_step (moved c.settle.ensures c.clear_moment-done.ensures.part
    (become_turns _)) (λ _. refl) (books_moment refl) (λ _ _ _ turn. registry_same turn.is refl refl)

pub returns-clause-listed : goal.returns-clause-listed
returns-clause-listed g c = lists_same
    c.args.self.now (moved c.settle.ensures c.clear_moment-done.ensures.part (become_turns _))
