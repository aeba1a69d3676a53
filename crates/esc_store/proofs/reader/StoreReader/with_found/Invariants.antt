use Rattle.std.proofs.Common.{Ok, take}
use Rattle.esc_store.specs.StoreState.{StoreState, IsRising}
use Rattle.esc_store.specs.declared.fault.StoreFault.{StoreFault}
use Rattle.esc_store.specs.Reading.{IsHonestReader, IsReadOnly, ReaderRepresents}
use Rattle.esc_store.specs.Holding.{AreFound}
use Rattle.esc_store.proofs.reader.StoreReader.with_found.Given as goal

-- the rows that were told, and those of the digests so far
abbrev pub invariant-loop-digest : goal.invariant-loop-digest
invariant-loop-digest g l = record {
  same : IsReadOnly {X = Unit {0}} {E = StoreFault} g.S.Store l.fn.self l.self (Ok tt);
  found : IsHonestReader g.S.Store l.self
      → (k : StoreState) → ReaderRepresents g.S.Store l.fn.self k → IsRising l.fn.told.items
      → AreFound k l.fn.told.items (take l.digest-index l.digests) l.rows.items;
}
