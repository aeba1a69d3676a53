use Rattle.std.proofs.Common.{List, [], ◌∷◌, ◌++◌, refl, sym, ap, ◌∙◌, append_assoc}
use Rattle.esc_apply.specs.ObjectStreams.{Entry}
use Rattle.esc_deposit.proofs.Cutting.{none_so_far}
use Rattle.esc_deposit.proofs.cut.cut_objects.Goals as goal

pub loop-object-init : goal.loop-object-init
loop-object-init g c = record {
  follows = g.met.O.Objects.stays _;
  cut = λ honest es lists. ([], es, lists, refl, none_so_far c.new.result.items c.new.ensures.items);
}

pub loop-object-preserved : goal.loop-object-preserved
loop-object-preserved g c =
    let objects = g.met.O.Objects in
    record {
      follows = objects.goes_on _ _ _ c.loop-object.invariant.follows c.next.ensures.follows;
      cut = λ honest es lists.
          let before = c.loop-object.invariant.cut (objects.was_honest _ _ c.next.ensures.follows honest) es lists in
          let gave = c.in-Ok-Some.ensures.given honest before.1 before.2 in
          let one = rw c.in-Ok-Some.field-0-is at gave in
          let entry : Entry = (c.in-Ok-Some.field-0-0-0, c.in-Ok-Some.object) in (
            before.0 ++ entry ∷ [],
            one.0,
            one.2,
            before.3 ∙ ap (λ (l : List Entry). before.0 ++ l) one.1
                ∙ sym (append_assoc before.0 (entry ∷ []) one.0),
            c.in_ok-add-in-Ok-Some.ensures before.0 entry c.object_size.ensures.rows c.object_size.ensures.bytes
                before.4,
          );
    }
