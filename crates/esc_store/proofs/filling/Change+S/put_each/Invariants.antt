use Rattle.esc_store.proofs.Common.{◌≡◌, ℕ, List, [], map, drop, Entry, State, new_entry, after_filling}
use Rattle.esc_store.proofs.Common.{after_noting, AreRowsOf, HasMadeTables, ChangeFollows}
use Rattle.esc_store.proofs.Filled.{Returns, Pending}
use Rattle.esc_store.proofs.filling.Change+S.put_each.Given as goal

abbrev pub invariant-loop-at : goal.invariant-loop-at
invariant-loop-at g l = record {
  follows : ChangeFollows g.S.Store l.fn.self l.self;
  count : l.self.count ≡ l.fn.self.count;
  writing : (s : State) (step : ℕ) (es : List Entry)
      → AreRowsOf es (map new_entry l.rows) → HasMadeTables g.S.Store l.fn.self (after_noting s step es)
      → Pending (Returns (HasMadeTables g.S.Store l.self) (after_filling s step es))
      (map new_entry (drop l.at l.rows)) [];
}
