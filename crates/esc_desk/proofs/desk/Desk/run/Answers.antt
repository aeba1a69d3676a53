use Rattle.std.proofs.Common.{◌≡◌, ◌+◌, ◌++◌, [], ◌∷◌, List, take, refl, ap, sym, subst}
use Rattle.std.proofs.Common.{◌∙◌, arith}
use Rattle.std.proofs.lemmas.List.{take_all, take_more, map-append}
use Rattle.std.proofs.lemmas.Grind.{common_steps}
use Rattle.esc_events.specs.ArrivalValue.{ArrivalValue}
use Rattle.esc_desk.specs.Asked.{as_event, as_outcome, as_events, as_outcomes}
use Rattle.esc_desk.proofs.RunLemmas.{Runs, runs_none, runs_more}
use Rattle.esc_desk.proofs.desk.Desk.run.Goals as goal

pub loop-arrival-init : goal.loop-arrival-init
loop-arrival-init g c =
    let none = c.in_ok-outcomes.ensures.items in
    record {
      counted = rw none refl;
      room = omega (arith, c.in_ok-outcomes.ensures.capacity);
      runs = rw none (runs_none g.S.Store c.args.self.now (omega arith));
    }

pub loop-arrival-preserved : goal.loop-arrival-preserved
loop-arrival-preserved g c =
    let all = c.args.arrivals.now in
    let i = c.loop-arrival.arrival-index in
    let a : ArrivalValue = c.arrival-item.result in
    let x = as_event a in
    let o = as_outcome c.take_arrival-outcome.result in
    let os = as_outcomes c.loop-arrival.outcomes.items in
    let xs = as_events (take i all) in
    let taken : take (i + 1) all ≡ take i all ++ a ∷ [] = take_more all i a c.loop-arrival-test.true
    ∙ ap (λ (b : ArrivalValue). take i all ++ b ∷ []) (sym c.arrival-item.is) in
    let more : as_events (take (i + 1) all) ≡ xs ++ x ∷ [] =
    ap as_events taken ∙ map-append as_event (take i all) (a ∷ []) in
    let pushed : as_outcomes c.push_reserved.new.self.items ≡ os ++ o ∷ [] =
    ap as_outcomes c.push_reserved.ensures.items
    ∙ map-append as_outcome c.loop-arrival.outcomes.items (c.take_arrival-outcome.result ∷ []) in
    let one = c.take_arrival-outcome.ensures in
    record {
      counted = grind (arith, common_steps);
      room = omega arith;
      runs = rw (more, pushed)
          (runs_more g.S.Store c.args.self.now c.loop-arrival.self c.take_arrival-outcome.new.self
          xs os x o c.loop-arrival.invariant.runs one.honest one.taken one.cause one.crash);
    }

pub returns-clause-ran : goal.returns-clause-ran
returns-clause-ran g c =
    let runs = subst (λ (xs : List ArrivalValue). Runs g.S.Store c.args.self.now
    c.loop-arrival.self (as_events xs) (as_outcomes c.loop-arrival.outcomes.items)) (take_all
    c.loop-arrival.arrival-index c.args.arrivals.now (omega arith)) c.loop-arrival.invariant.runs in
    runs.ran

pub returns-clause-cause : goal.returns-clause-cause
returns-clause-cause g c =
    let runs = subst (λ (xs : List ArrivalValue). Runs g.S.Store c.args.self.now
    c.loop-arrival.self (as_events xs) (as_outcomes c.loop-arrival.outcomes.items)) (take_all
    c.loop-arrival.arrival-index c.args.arrivals.now (omega arith)) c.loop-arrival.invariant.runs in
    runs.cause

pub returns-clause-crash : goal.returns-clause-crash
returns-clause-crash g c =
    let runs = subst (λ (xs : List ArrivalValue). Runs g.S.Store c.args.self.now
    c.loop-arrival.self (as_events xs) (as_outcomes c.loop-arrival.outcomes.items)) (take_all
    c.loop-arrival.arrival-index c.args.arrivals.now (omega arith)) c.loop-arrival.invariant.runs in
    runs.crash
