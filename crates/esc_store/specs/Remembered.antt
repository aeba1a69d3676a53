-- What a store remembers of what it read.
use Rattle.std.specs.Prelude.{◌≡◌, IfSome, None}
use Rattle.esc_store.specs.declared.remembered.Remembered.{Remembered}
use Rattle.esc_store.specs.Decoded.{counted}
use Rattle.esc_store.specs.StoreState.{StoreState, AreCounts, AreHeldBy, AreUnlisted, kept_chain}

-- nothing
abbrev pub nothing_read : Remembered
nothing_read = record {
  rows_with_receipt = None;
  unlisted_digests = None;
  chain = None;
  counts = None;
}

-- what is remembered, if anything, is so of k: the rows that its receipts say are held, the digests
-- that they say no row listed, its chain, and how many objects of each kind it has
pub record IsRemembered (it : Remembered) (k : StoreState) : Type 0 where
  pub told : IfSome it.rows_with_receipt (λ rows. AreHeldBy k.receipts rows.items)
  pub unlisted : IfSome it.unlisted_digests (λ digests. AreUnlisted k.receipts digests.items)
  pub chain : IfSome it.chain (λ steps. steps.items ≡ kept_chain k)
  pub counts : IfSome it.counts (λ c. AreCounts k.registry.content (counted c))
