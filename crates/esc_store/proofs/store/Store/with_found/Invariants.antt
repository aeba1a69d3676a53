use Rattle.std.proofs.Common.{take}
use Rattle.esc_store.specs.StoreState.{StoreState, IsRising}
use Rattle.esc_store.specs.Representation.{Represents, IsHonest, IsAsBefore}
use Rattle.esc_store.specs.Holding.{AreFound}
use Rattle.esc_store.proofs.store.Store.with_found.Given as goal

-- the rows that were told, and those of the digests so far
abbrev pub invariant-loop-digest : goal.invariant-loop-digest
invariant-loop-digest g l = record {
  same : IsAsBefore g.S.Store l.fn.self l.self;
  found : IsHonest g.S.Store l.self
      → (k : StoreState) → Represents g.S.Store l.fn.self k → IsRising l.fn.told.items
      → AreFound k l.fn.told.items (take l.digest-index l.digests) l.rows.items;
}
