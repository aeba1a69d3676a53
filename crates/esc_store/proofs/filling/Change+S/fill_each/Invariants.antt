use Rattle.esc_store.proofs.Common.{◌≡◌, List, [], map, drop, Entry, State, with_object, CanBePut}
use Rattle.esc_store.proofs.Common.{new_entry, after_filling, AreRowsOf, HasMadeTables, ChangeFollows}
use Rattle.esc_store.proofs.Common.{IsHonest, store_in}
use Rattle.esc_store.proofs.Filled.{Fills, Pending}
use Rattle.esc_store.proofs.filling.Change+S.fill_each.Given as goal

abbrev pub invariant-loop-at : goal.invariant-loop-at
invariant-loop-at g l = record {
  follows : ChangeFollows g.S.Store l.fn.self l.self;
  count : l.self.count ≡ l.fn.self.count;
  filling : IsHonest g.S.Store (store_in l.self)
      → (s : State) (es : List Entry) → AreRowsOf es (map new_entry l.rows)
      → CanBePut l.targets s l.step (map with_object es) → HasMadeTables g.S.Store l.fn.self s
      → Pending (Fills (HasMadeTables g.S.Store l.self) l.targets (after_filling s l.step es) l.step)
      (map new_entry (drop l.at l.rows)) [];
}
