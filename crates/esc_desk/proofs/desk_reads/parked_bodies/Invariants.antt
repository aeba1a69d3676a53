use Rattle.std.proofs.Common.{◌≡◌, map, take, All}
use Rattle.esc_store.specs.StoreState.{StoreState}
use Rattle.esc_store.specs.Representation.{Represents, IsHonest, IsAsBefore}
use Rattle.esc_store.specs.declared.parked.ParkedBody.{ParkedBody}
use Rattle.esc_store.specs.Parks.{IsParkedBody}
use Rattle.esc_desk.proofs.desk_reads.parked_bodies.Given as goal

-- the bodies of the digests so far
abbrev pub invariant-loop-digest : goal.invariant-loop-digest
invariant-loop-digest g l = record {
  same : IsAsBefore g.S.Store l.fn.store l.store;
  digests : map (λ (p : ParkedBody). p.digest) l.bodies.items ≡ take l.digest-index l.digests;
  each : IsHonest g.S.Store l.store → (k : StoreState)
      → Represents g.S.Store l.fn.store k → All (IsParkedBody k.parked) l.bodies.items;
}
