-- What the reads of a desk return after a list of events.
use Rattle.std.specs.Prelude.{◌≡◌, ℕ, ◌-◌, List, length, map, Option, Some, None, option_map}
use Rattle.std.specs.Prelude.{slice_get, Ok}
use Rattle.sha2.specs.Sha256.{sha256}
use Rattle.esc_tables.specs.DepositValue.{DepositValue}
use Rattle.esc_tables.specs.Reading.{reading}
use Rattle.esc_apply.specs.declared.front.Step.{Step}
use Rattle.esc_store.specs.StoreState.{step_at, AreHeld, AreCounts}
use Rattle.esc_store.specs.ReplyValue.{ReplyValue, replies_from}
use Rattle.esc_store.specs.declared.parked.ParkedBody.{ParkedBody}
use Rattle.esc_events.specs.Apart.{WhereApart}
use Rattle.esc_events.specs.Events.{EventValue, union}
use Rattle.esc_store.specs.Parks.{AreParkedBodies}
use Rattle.esc_events.specs.LatestTables.{IsChainOf, tables_of_chain}
use Rattle.esc_events.specs.Receipts.{receipts_of}
use Rattle.esc_events.specs.StateAfter.{deposit_of, held_body, parked_body}
use Rattle.esc_desk.specs.declared.status.Status.{Status}
use Rattle.esc_desk.specs.declared.status.End.{End}

-- the last element, if any
abbrev pub last : {X : Type 0} → List X → Option X
last xs = slice_get xs (length xs - 1)

-- the end says what a deposit says of the registry
pub record SaysEnd (d : DepositValue) (end : End) : Type 0 where
  pub watermark : end.watermark ≡ d.header.place.watermark
  pub counts : end.counts.entries ≡ d.counts

-- there is a body, and the end is what its deposit says, if it is one
abbrev pub SaysOfBody : Option (List ℕ) → End → Type 0
SaysOfBody body end = (bytes : List ℕ) × (body ≡ Some bytes)
    × ((d : DepositValue) → reading bytes ≡ Ok d → SaysEnd d end)

module _ (e : List EventValue) where
  -- the replies of the receipts that the events leave
  abbrev pub replies_of : List ReplyValue
  replies_of = replies_from (union e) 1 (receipts_of sha256 reading e)

  -- these are the rows that have a body, in ascending order
  abbrev pub AreHeldOf : List ℕ → Type 0
  AreHeldOf rows = WhereApart e (AreHeld (held_body sha256 reading e) rows)

  -- these are the bodies that no row lists, in the order of their digests
  abbrev pub AreParkedOf : List ParkedBody → Type 0
  AreParkedOf bodies = WhereApart e (AreParkedBodies (parked_body sha256 reading e) bodies)

  -- these are the steps of a latest chain
  pub record AreStepsOfChain (steps : List Step) : Type 0 where
    pub chain : List ℕ
    pub latest : IsChainOf e chain
    pub are : steps ≡ map (step_at (union e)) chain

  abbrev pub AreStepsOf : List Step → Type 0
  AreStepsOf steps = WhereApart e (AreStepsOfChain steps)

  -- this is the body of a row, if it is held
  abbrev pub IsBodyOf : ℕ → Option (List ℕ) → Type 0
  IsBodyOf row body = WhereApart e (body ≡ held_body sha256 reading e row)

  -- this is what the deposit of a chain's last row says; if there is no row, it is nothing
  abbrev pub IsEndAt : Option ℕ → Option End → Type 0
  IsEndAt None None = Unit {0}
  IsEndAt None (Some end) = ⊥
  IsEndAt (Some row) None = ⊥
  IsEndAt (Some row) (Some end) = SaysEnd (deposit_of reading (held_body sha256 reading e row)) end

  -- this is what the last deposit of the latest chain says
  pub record IsEndOfChain (end : Option End) : Type 0 where
    pub chain : List ℕ
    pub latest : IsChainOf e chain
    pub says : IsEndAt (last chain) end

  abbrev pub IsEnd : Option End → Type 0
  IsEnd end = WhereApart e (IsEndOfChain end)

  -- the numbers are those of the held rows, the latest chain and its tables
  pub record AreCountsOf (status : Status) : Type 0 where
    pub rows : List ℕ
    pub are_held : AreHeld (held_body sha256 reading e) rows
    pub chain : List ℕ
    pub latest : IsChainOf e chain
    pub held_count : status.held ≡ length rows
    pub step_count : status.chain ≡ length chain
    pub end_is : status.end
        ≡ option_map (λ (s : Step). (s.place, s.resend)) (last (map (step_at (union e)) chain))
    pub objects_are : AreCounts (tables_of_chain e chain) status.objects.entries

  -- and those of the listed rows and the receipts
  pub record IsStatus (status : Status) : Type 0 where
    pub listed_count : status.listed ≡ length (union e)
    pub receipt_count : status.receipts ≡ length (receipts_of sha256 reading e)
    pub counts : WhereApart e (AreCountsOf status)
