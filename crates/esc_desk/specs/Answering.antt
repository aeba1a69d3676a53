-- What an arrival is answered, and what it comes to, found by reads alone.
use Rattle.std.specs.Prelude.{◌≡◌, ◌≢◌, ◌+◌, ℕ, Bool, true, false, is_some, IsSome, IfSome, List}
use Rattle.std.specs.Prelude.{[], ◌∷◌, ◌++◌, length, Option, Some, None}
use Rattle.sha2.specs.Sha256.{sha256}
use Rattle.sqlite_trees.specs.declared.store.Store.{Ghosts}
use Rattle.esc_tables.specs.Reading.{reading}
use Rattle.esc_apply.specs.declared.moves.Work.{Work}
use Rattle.esc_store.specs.declared.reply.Verdict.TheVariants.{A2}
use Rattle.esc_store.specs.declared.store.Store.{Store}
use Rattle.esc_store.specs.StoreState.{StoreState}
use Rattle.esc_store.specs.ReplyValue.{ReplyValue, reply_alike}
use Rattle.esc_store.specs.Representation.{Represents}
use Rattle.esc_events.specs.declared.cache.Cache.{Cache}
use Rattle.esc_events.specs.ArrivalValue.{ArrivalValue}
use Rattle.esc_events.specs.Assessment.{assessment}
use Rattle.esc_events.specs.Events.{EventValue, union}
use Rattle.esc_events.specs.Events.EventValue.{arrived}
use Rattle.esc_events.specs.Cache.{IsCacheOf}
use Rattle.esc_events.specs.Receipts.{reply_to}
use Rattle.esc_events.specs.StateAfter.{IsStateAfter}
use Rattle.esc_events.specs.Works.{IsIdle}
use Rattle.esc_desk.specs.declared.answering.Answer.{Answer}
use Rattle.esc_desk.specs.Again.{IsUnkept, is_missing}
use Rattle.esc_desk.specs.Calls.{HadPlace}
use Rattle.esc_desk.specs.Decisions.{IsDecided}
use Rattle.esc_desk.specs.Edits.{IsCostOfEdit, is_empty}

-- a store keeps k and stands for e, this is known of its rows, if anything is, and this is the
-- reply that it keeps for an arrival with this number and digest
pub record IsAsked {S : Type 0} (g : Ghosts S) (store : Store S) (cache : Option Cache)
    (n digest : List ℕ) (kept : Option ReplyValue) (e : List EventValue) (k : StoreState)
    : Type 0 where
  pub stood : Represents g store k
  pub stands_for : IsStateAfter sha256 reading e k
  pub cache_is : IfSome cache (IsCacheOf k)
  pub kept_is : reply_alike (union e) 1 n digest k.receipts ≡ kept

-- a reply, with this number of its receipt if that is new
abbrev pub numbered : Bool → ℕ → ReplyValue → ReplyValue
numbered false n reply = reply
numbered true n reply = record reply { receipt = n }

-- an arrival is a duplicate of an earlier one with the reply r: it gets that reply and no receipt,
-- and unless that says A2, nothing is changed
pub record IsRepeat (r : ReplyValue) (p : Answer) : Type 0 where
  pub same : p.reply ≡ r
  pub no_receipt : p.decision.edit.receipt ≡ None
  pub rests : r.verdict ≢ A2 → is_empty p.decision.edit ≡ true

-- what an arrival is answered, and what it makes of a store that keeps k and stands for e
pub record IsAnswer (e : List EventValue) (a : ArrivalValue) (k : StoreState) (p : Answer)
    : Type 0 where
  pub decided : IsDecided e (arrived a) k p.decision
  pub idle : (work : Work) → IsCostOfEdit p.decision.edit k work → IsIdle e (arrived a) work
  pub told : (n : ℕ) → IfSome p.decision.edit.receipt (λ r. n ≡ length k.receipts + 1)
      → reply_to sha256 reading (e ++ arrived a ∷ []) a
      ≡ Some (numbered (is_some p.decision.edit.receipt) n p.reply)
  pub is_new : reply_to sha256 reading e a ≡ None → IsSome p.decision.edit.receipt
  pub again : (r : ReplyValue) → reply_to sha256 reading e a ≡ Some r → IsRepeat r p
  pub there : is_empty p.decision.edit ≡ true → IsUnkept e a
      → is_missing k.bodies k.parked (sha256 a.body) (assessment sha256 reading (union e) a.body)
      ≡ false
  pub place : HadPlace e a
