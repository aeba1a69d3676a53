use Rattle.std.proofs.Common.{◌≡◌, ◌≤◌, length, take, vec_capacity}
use Rattle.esc_desk.proofs.RunLemmas.{Runs}
use Rattle.esc_desk.proofs.desk.Desk.run_events.Given as goal

-- the run so far
abbrev pub invariant-loop-event : goal.invariant-loop-event
invariant-loop-event g l = record {
  counted : length l.outcomes.items ≡ l.event-index;
  room : length l.events ≤ vec_capacity l.outcomes;
  runs : Runs g.S.Store l.fn.self l.self (take l.event-index l.events) l.outcomes.items;
}
