use Rattle.std.proofs.Common.{◌≡◌, drop}
use Rattle.esc_apply.specs.Registry.{State}
use Rattle.esc_store.specs.StoreState.{StoreState}
use Rattle.esc_store.specs.Representation.{IsHonest, IsUncommitted, HasMadeBooks, HasMadeTables}
use Rattle.esc_events.specs.Amended.{with_all_dropped}
use Rattle.esc_desk.proofs.changes.drop_rows.Given as goal

-- the bodies of the rows so far are let go
abbrev pub invariant-loop-row : goal.invariant-loop-row
invariant-loop-row g l = record {
  goes_on : IsUncommitted g.S.Store l.fn.change l.change;
  count : l.change.count ≡ l.fn.change.count;
  makes : IsHonest g.S.Store l.change.store.now
      → (before k : StoreState) → HasMadeBooks g.S.Store l.fn.change before k
      → (made : StoreState) × HasMadeBooks g.S.Store l.change before made × (with_all_dropped
      l.rows made (drop l.row-index l.dropped) ≡ with_all_dropped l.rows k l.dropped);
  holds : (s : State) → HasMadeTables g.S.Store l.fn.change s → HasMadeTables g.S.Store l.change s;
}
