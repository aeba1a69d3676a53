use Rattle.std.proofs.Common.{◌≡◌, ◌≤◌, length, take, vec_capacity}
use Rattle.esc_desk.specs.Asked.{as_events, as_outcomes}
use Rattle.esc_desk.proofs.RunLemmas.{Runs}
use Rattle.esc_desk.proofs.desk.Desk.run.Given as goal

-- the run so far
abbrev pub invariant-loop-arrival : goal.invariant-loop-arrival
invariant-loop-arrival g l = record {
  counted : length l.outcomes.items ≡ l.arrival-index;
  room : length l.arrivals ≤ vec_capacity l.outcomes;
  runs : Runs g.S.Store l.fn.self l.self (as_events (take l.arrival-index l.arrivals)) (as_outcomes l.outcomes.items);
}
