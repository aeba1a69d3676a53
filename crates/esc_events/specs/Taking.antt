-- What is known of an arrival before the store takes it in.
use Rattle.std.specs.Prelude.{◌≡◌, false, List, None, Some}
use Rattle.sha2.specs.Sha256.{sha256}
use Rattle.esc_tables.specs.Reading.{reading}
use Rattle.esc_store.specs.declared.reply.Verdict.TheVariants.{A2}
use Rattle.esc_store.specs.ReplyValue.{ReplyValue, ReceiptValue, reply_alike}
use Rattle.esc_store.specs.StoreState.{StoreState}
use Rattle.esc_events.specs.declared.assessment.Assessment.{Assessment}
use Rattle.esc_events.specs.declared.cache.Cache.{Cache}
use Rattle.esc_events.specs.ArrivalValue.{ArrivalValue}
use Rattle.esc_events.specs.Events.{EventValue, union}
use Rattle.esc_events.specs.Assessment.{assessment, held_row}
use Rattle.esc_events.specs.Receipts.{receipt_by, is_among}
use Rattle.esc_events.specs.Cache.{IsCacheOf}
use Rattle.esc_events.specs.StateAfter.{IsStateAfter}

-- the store stands for e, no receipt has the arrival's number and digest, this was found of its
-- body, this is known of the store's rows, and this is its receipt
pub record IsNew (e : List EventValue) (a : ArrivalValue) (k : StoreState) (found : Assessment)
    (cache : Cache) (receipt : ReceiptValue) : Type 0 where
  pub stood : IsStateAfter sha256 reading e k
  pub none : reply_alike (union e) 1 a.number (sha256 a.body) k.receipts ≡ None
  pub found_is : found ≡ assessment sha256 reading (union e) a.body
  pub cache_is : IsCacheOf k cache
  pub receipt_is : receipt ≡ receipt_by a.number (sha256 a.body) false found
      (is_among cache.rows_with_receipt.items (held_row found))

-- the store stands for e, this is the reply that was kept for the arrival, it says that no row
-- listed the body and that it was not kept, and this is found of the body now
pub record IsAgain (e : List EventValue) (a : ArrivalValue) (k : StoreState) (found : Assessment)
    (reply : ReplyValue) : Type 0 where
  pub stood : IsStateAfter sha256 reading e k
  pub kept : reply_alike (union e) 1 a.number (sha256 a.body) k.receipts ≡ Some reply
  pub verdict : reply.verdict ≡ A2
  pub found_is : found ≡ assessment sha256 reading (union e) a.body
