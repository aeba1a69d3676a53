use Rattle.esc_store.proofs.Common.{refl, ap, Some}
use Rattle.std.proofs.Common.{w64}
use Rattle.std.proofs.lemmas.Int.{to_z-of_z}
use Rattle.esc_store.proofs.Parking.{moment_turns, books_moment}
use Rattle.esc_store.proofs.Parts.{registry_same}
use Rattle.esc_store.proofs.Following.{moved, part_step, lists_same}
use Rattle.esc_store.proofs.moment.Change+S.put_moment.Goals as goal

pub returns-clause-part : goal.returns-clause-part
returns-clause-part g c = part_step (moved c.settle.ensures c.insert_moment-done.ensures.part
    (moment_turns _)) (λ _. refl) (books_moment (ap Some (to_z-of_z w64 _ c.ranges.moment)))
    (λ _ _ _ turn. registry_same turn.is refl refl)

pub returns-clause-listed : goal.returns-clause-listed
returns-clause-listed g c = lists_same
    c.args.self.now (moved c.settle.ensures c.insert_moment-done.ensures.part (moment_turns _))
