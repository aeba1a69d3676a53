use Rattle.esc_store.proofs.Common.{ap, ◌∙◌, Some}
use Rattle.esc_store.proofs.Registries.{one_object}
use Rattle.esc_store.proofs.codec.object.object_in.Goals as goal

pub returns-in_ok-object-in-Some-clause-object : goal.returns-in_ok-object-in-Some-clause-object
returns-in_ok-object-in-Some-clause-object c = λ o is has.
    one_object c.no_record_begins_another.ensures c.in_ok-object-in-Some.object
    c.in-Some.record.items o (c.in_ok-object-in-Some.ensures.object
    ∙ ap Some c.as_slice.ensures.value) (rw c.in-Some.is at is)
