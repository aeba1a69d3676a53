use Rattle.std.proofs.Common.{[], List, ℤ, subst, w64, to_z, of_z}
use Rattle.std.proofs.lemmas.Int.{to_z-of_z}
use Rattle.esc_apply.specs.ObjectStreams.{Entry}
use Rattle.esc_check.specs.Verifying.{IsVerifying}
use Rattle.esc_check.proofs.Steps.{came}
use Rattle.esc_check.proofs.walk.take_in_all.Goals as goal

pub loop-verification-init : goal.loop-verification-init
loop-verification-init g c =
    let objects = g.met.O.Objects in
    record {
      follows = objects.stays _;
      taken = λ honest es lists. (es, lists, c.in_ok-verification.ensures es (objects.in_order _ es lists));
    }

pub returns-in_err-take_in-clause-follows : goal.returns-in_err-take_in-clause-follows
returns-in_err-take_in-clause-follows g c =
    g.met.O.Objects.goes_on _ _ _ c.loop-verification.invariant.follows c.next.ensures.follows

pub loop-verification-preserved : goal.loop-verification-preserved
loop-verification-preserved g c =
    let objects = g.met.O.Objects in
    record {
      follows = objects.goes_on _ _ _ c.loop-verification.invariant.follows c.next.ensures.follows;
      taken = λ honest es lists.
          let before = c.loop-verification.invariant.taken
          (objects.was_honest _ _ c.next.ensures.follows honest) es lists in
          let gave = came _ _ c.next.result c.map_err.result c.in_ok-key.field-0
          c.map_err.ensures.cases c.in_ok-key.was c.next.ensures.given honest before.0 before.1 in
          let one = rw c.in-Some.is at gave in
          let w = to_z w64 (of_z w64 c.args.watermark) in
          let verifying = subst (λ (l : List Entry). IsVerifying w c.loop-verification.verification l es)
          one.1 before.2 in
          (one.0, one.2, c.in_ok-take_in.ensures w one.0 es verifying);
    }

pub returns-clause-all : goal.returns-clause-all
returns-clause-all g c = λ honest es lists.
    let objects = g.met.O.Objects in
    let before = c.loop-verification.invariant.taken
    (objects.was_honest _ _ c.next.ensures.follows honest) es lists in
    let gave = came _ _ c.next.result c.map_err.result c.in_ok-key.field-0
    c.map_err.ensures.cases c.in_ok-key.was c.next.ensures.given honest before.0 before.1 in
    let none = rw c.in_default.is at gave in
    let w = to_z w64 (of_z w64 c.args.watermark) in
    let all = subst (λ (l : List Entry). IsVerifying w c.loop-verification.verification l es) none.0 before.2 in
    subst (λ (z : ℤ). IsVerifying z c.loop-verification.verification [] es)
    (to_z-of_z w64 c.args.watermark c.ranges.watermark) all
