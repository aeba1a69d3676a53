-- What is known of a store's rows and its chain.
use Rattle.std.specs.Prelude.{◌≡◌}
use Rattle.esc_store.specs.StoreState.{StoreState, AreHeld, AreHeldBy, kept_chain}
use Rattle.esc_events.specs.declared.cache.Cache.{Cache}

-- a cache has the rows for which the store keeps a body, those that its receipts say are held, and
-- the chain that it keeps
pub record IsCacheOf (k : StoreState) (cache : Cache) : Type 0 where
  pub held : AreHeld k.bodies cache.held_rows.items
  pub told : AreHeldBy k.receipts cache.rows_with_receipt.items
  pub chain : cache.chain.items ≡ kept_chain k
