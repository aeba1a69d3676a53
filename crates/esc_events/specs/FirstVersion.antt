-- What a store of version 1 stands for.
use Rattle.std.specs.Prelude.{◌≡◌, ℕ, List, [], ◌∷◌, map, None, Result}
use Rattle.std.specs.List.{find}
use Rattle.esc_bundle.specs.declared.refusal.Refusal.{Refusal}
use Rattle.esc_tables.specs.DepositValue.{DepositValue}
use Rattle.esc_manifest.specs.declared.row.MRow.{MRow}
use Rattle.esc_chain.specs.Chain.{Rows, IsLatestChain}
use Rattle.esc_apply.specs.Images.{chain_state}
use Rattle.esc_store.specs.StoreState.{StoreState}
use Rattle.esc_events.specs.ArrivalValue.{ArrivalValue}
use Rattle.esc_events.specs.Events.{EventValue, Coming, early_coming}
use Rattle.esc_events.specs.Events.EventValue.{listed, arrived_early}
use Rattle.esc_events.specs.Receipts.{distinct, holds, receipts_after}
use Rattle.esc_events.specs.StateAfter.{HaveBodies, arrived_body, deposits_of}

-- the events that a store of version 1 with this manifest and these arrivals stands for, once it is
-- one of version 2
abbrev pub events_before : List MRow → List ArrivalValue → List EventValue
events_before m l = listed m ∷ map arrived_early l

module _ (digest : List ℕ → List ℕ) (reads : List ℕ → Result DepositValue Refusal) where
  -- the arrivals of version 1 that are no duplicates: the manifest's rows were listed when each
  -- came
  abbrev pub first_arrivals : List MRow → List ArrivalValue → List Coming
  first_arrivals m l = distinct digest reads (map (early_coming m) l)

  -- a store of version 1 keeps the manifest's rows, the receipts of the arrivals, for each row the
  -- body of the first arrival with the verdict A1 at it, the rows of the latest chain of the rows
  -- that have a body, and that chain's tables and before-images. Nothing is parked, and no moment
  -- is set
  pub record StoodFor (m : List MRow) (l : List ArrivalValue) (k : StoreState) : Type 0 where
    pub listed : k.listed ≡ m
    pub receipts : k.receipts ≡ receipts_after digest reads [] (first_arrivals m l)
    pub bodies : (r : ℕ) → k.bodies r
        ≡ arrived_body (find (holds digest reads r) (first_arrivals m l))
    pub parked : (d : List ℕ) → k.parked d ≡ None
    pub moment : k.moment ≡ None
    pub held : Rows
    pub have_bodies : HaveBodies k.bodies held
    pub chain : IsLatestChain m held k.steps
    pub registry : k.registry ≡ chain_state (deposits_of reads k.bodies k.steps)
