use Rattle.std.proofs.Common.{◌≡◌, ◌+◌, ◌++◌, [], ◌∷◌, List, take, refl, ap, sym, subst}
use Rattle.std.proofs.Common.{◌∙◌, arith}
use Rattle.std.proofs.lemmas.List.{take_all, take_more}
use Rattle.std.proofs.lemmas.Grind.{common_steps}
use Rattle.esc_desk.specs.declared.event.Event.{Event}
use Rattle.esc_desk.proofs.RunLemmas.{Runs, runs_none, runs_more}
use Rattle.esc_desk.proofs.desk.Desk.run_events.Goals as goal

pub loop-event-init : goal.loop-event-init
loop-event-init g c =
    let none = c.in_ok-outcomes.ensures.items in
    record {
      counted = rw none refl;
      room = omega (arith, c.in_ok-outcomes.ensures.capacity);
      runs = rw none (runs_none g.S.Store c.args.self.now (omega arith));
    }

pub loop-event-preserved : goal.loop-event-preserved
loop-event-preserved g c =
    let all = c.args.events.now in
    let i = c.loop-event.event-index in
    let x : Event = c.event-item.result in
    let more : take (i + 1) all ≡ take i all ++ x ∷ [] = take_more all i x c.loop-event-test.true
    ∙ ap (λ (y : Event). take i all ++ y ∷ []) (sym c.event-item.is) in
    let one = c.take-outcome.ensures in
    record {
      counted = grind (arith, common_steps);
      room = omega arith;
      runs = rw (more, c.push_reserved.ensures.items)
          (runs_more g.S.Store c.args.self.now c.loop-event.self
          c.take-outcome.new.self (take i all) c.loop-event.outcomes.items x c.take-outcome.result
          c.loop-event.invariant.runs one.honest one.taken one.cause one.crash);
    }

pub returns-clause-ran : goal.returns-clause-ran
returns-clause-ran g c =
    let runs = subst (λ (xs : List Event). Runs g.S.Store c.args.self.now c.loop-event.self xs
    c.loop-event.outcomes.items) (take_all c.loop-event.event-index c.args.events.now (omega arith))
    c.loop-event.invariant.runs in
    runs.ran

pub returns-clause-cause : goal.returns-clause-cause
returns-clause-cause g c =
    let runs = subst (λ (xs : List Event). Runs g.S.Store c.args.self.now c.loop-event.self xs
    c.loop-event.outcomes.items) (take_all c.loop-event.event-index c.args.events.now (omega arith))
    c.loop-event.invariant.runs in
    runs.cause

pub returns-clause-crash : goal.returns-clause-crash
returns-clause-crash g c =
    let runs = subst (λ (xs : List Event). Runs g.S.Store c.args.self.now c.loop-event.self xs
    c.loop-event.outcomes.items) (take_all c.loop-event.event-index c.args.events.now (omega arith))
    c.loop-event.invariant.runs in
    runs.crash
