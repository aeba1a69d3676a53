use Rattle.std.proofs.Common.{◌∙◌, List, [], ◌∷◌, ◌++◌, sym, ap, append_assoc}
use Rattle.esc_apply.specs.ObjectStreams.{Entry}
use Rattle.esc_deposit.proofs.run.take_run.Goals as goal

pub returns-in_err-push-in-Ok-Some-clause-follows :
    goal.returns-in_err-push-in-Ok-Some-clause-follows
returns-in_err-push-in-Ok-Some-clause-follows g c =
    g.met.O.Objects.goes_on _ _ _ c.loop.invariant.follows c.next.ensures.follows

pub loop-preserved : goal.loop-preserved
loop-preserved g c =
    let objects = g.met.O.Objects in
    record {
      follows = objects.goes_on _ _ _ c.loop.invariant.follows c.next.ensures.follows;
      run = λ honest es lists.
          let before = c.loop.invariant.run (objects.was_honest _ _ c.next.ensures.follows honest) es lists in
          let gave = c.in-Ok-Some.ensures.given honest before.0 before.1 in
          let one = rw c.in-Ok-Some.field-0-is at gave in (
            one.0,
            one.2,
            before.2 ∙ ap (λ (l : List Entry). c.loop.run.items ++ l) one.1
                ∙ sym (append_assoc c.loop.run.items _ one.0)
                ∙ ap (λ (l : List Entry). l ++ one.0) (sym c.in_ok-push-in-Ok-Some.ensures.items),
          );
    }
