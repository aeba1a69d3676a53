use Rattle.std.proofs.Common.{◌≡◌, List, [], Option, Some, None, false}
use Rattle.std.specs.Prelude.{is_some}
use Rattle.esc_apply.specs.ObjectStreams.{Entry, GivesFirst}
use Rattle.esc_commands.proofs.export.read_all.Goals as goal

module _ (Lists : List Entry → Type 0) (es : List Entry) where
  -- what is still to come once an object was given, or none
  to_come : (o : Option Entry) → GivesFirst Lists es o → (left : List Entry) × Lists left
  to_come (Some e) gave = (gave.0, gave.2)
  to_come None gave = ([], gave.1)

  none_to_come : (o : Option Entry) → false ≡ is_some o → GivesFirst Lists es o → Lists []
  none_to_come (Some e) none gave = absurd cc
  none_to_come None none gave = gave.1

pub loop-init : goal.loop-init
loop-init g c = record {
  follows = g.met.O.Objects.stays _;
  left = λ honest es lists. (es, lists);
}

pub returns-in_err-next-clause-follows : goal.returns-in_err-next-clause-follows
returns-in_err-next-clause-follows g c =
    g.met.O.Objects.goes_on _ _ _ c.loop.invariant.follows c.next.ensures.follows

pub loop-preserved : goal.loop-preserved
loop-preserved g c =
    let objects = g.met.O.Objects in
    record {
      follows = objects.goes_on _ _ _ c.loop.invariant.follows c.next.ensures.follows;
      left = λ honest es lists.
          let before = c.loop.invariant.left (objects.was_honest _ _ c.next.ensures.follows honest) es lists in
          to_come _ _ _ (c.in_ok-next.ensures.given honest before.0 before.1);
    }

pub returns-clause-follows : goal.returns-clause-follows
returns-clause-follows g c =
    g.met.O.Objects.goes_on _ _ _ c.loop.invariant.follows c.next.ensures.follows

pub returns-clause-ended : goal.returns-clause-ended
returns-clause-ended g c = λ honest es lists.
    let objects = g.met.O.Objects in
    let before = c.loop.invariant.left (objects.was_honest _ _ c.next.ensures.follows honest) es lists in
    none_to_come (g.O.Objects.lists c.next.new.self) _ _ c.if-is_some.ensures
    (c.in_ok-next.ensures.given honest before.0 before.1)
