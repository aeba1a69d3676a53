-- What is told of an arrival for which no receipt is kept.
use Rattle.std.specs.Prelude.{◌≡◌, List, [], ◌∷◌, ◌++◌}
use Rattle.esc_store.specs.StoreState.{StoreState, AreHeldBy}
use Rattle.esc_events.specs.declared.cache.Cache.{Cache}
use Rattle.esc_events.specs.ArrivalValue.{ArrivalValue, an_arrival}
use Rattle.esc_events.specs.Events.{EventValue}
use Rattle.esc_events.specs.Taking.{IsNew}
use Rattle.esc_desk.specs.declared.delivery.Delivery.{Delivery}
use Rattle.esc_desk.specs.declared.receiving.Received.{Received}

-- what was delivered, as an arrival
abbrev pub delivered : Delivery → ArrivalValue
delivered d = an_arrival d.number.now d.content.body.now

-- this is the receipt, by what was found and was known of the rows before, and this is known then
pub record IsReceived (e : List EventValue) (a : ArrivalValue) (k : StoreState) (before : Cache)
    (r : Received) : Type 0 where
  pub is_new : IsNew e a k r.found before r.receipt
  pub held : r.cache.held_rows ≡ before.held_rows
  pub told : AreHeldBy (k.receipts ++ r.receipt ∷ []) r.cache.rows_with_receipt.items
  pub chain : r.cache.chain ≡ before.chain
