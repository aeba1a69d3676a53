use Rattle.esc_store.proofs.Common.{◌≡◌, List, Some, map, take, MRow, State, StoreState, with_listed}
use Rattle.esc_store.proofs.Common.{listed_from, HasMadeBooksIn, HasMadeTables, IsUncommitted}
use Rattle.esc_store.proofs.Common.{listed_row}
use Rattle.esc_store.proofs.listing.Change+S.list_rows.Given as goal

abbrev pub invariant-loop-at : goal.invariant-loop-at
invariant-loop-at g l =
    IsUncommitted g.S.Store l.fn.self l.self
    × (l.self.listing ≡ l.fn.self.listing) × (l.self.count ≡ l.fn.self.count)
    × ((before k : StoreState) (union : List MRow) → map listed_row l.rows ≡ listed_from 0 union → take
    l.from union ≡ k.listed → HasMadeBooksIn g.S.Store l.fn.self.store.now (Some k.listed) before k
    → HasMadeBooksIn g.S.Store l.self.store.now (Some (take l.at union)) before (with_listed k (take l.at union)))
    × ((s : State) → HasMadeTables g.S.Store l.fn.self s → HasMadeTables g.S.Store l.self s)
