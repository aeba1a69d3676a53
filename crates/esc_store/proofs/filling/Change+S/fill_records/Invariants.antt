use Rattle.esc_store.proofs.Common.{◌≡◌, map, State, with_object, CanBePut, new_entry, after_filling}
use Rattle.esc_store.proofs.Common.{HasMadeTables, ChangeFollows, IsHonest, store_in}
use Rattle.esc_store.proofs.Filled.{Fills, Pending}
use Rattle.esc_store.proofs.filling.Change+S.fill_records.Given as goal

abbrev pub invariant-loop-key : goal.invariant-loop-key
invariant-loop-key g l = record {
  follows : ChangeFollows g.S.Store l.fn.self l.self;
  count : l.self.count ≡ l.fn.self.count;
  filling : IsHonest g.S.Store (store_in l.self) → (s : State) → CanBePut
      l.targets s l.step (map with_object l.objects.entries) → HasMadeTables g.S.Store l.fn.self s
      → Pending (Fills (HasMadeTables g.S.Store l.self) l.targets (after_filling
      s l.step l.objects.entries) l.step) (map new_entry l.rows.items) l.key-iterator;
}
