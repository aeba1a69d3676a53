-- The work of an event.
use Rattle.std.specs.Prelude.{◌≡◌, ◌≤◌, false, ℕ, Ok, List, [], ◌∷◌, ◌++◌, map, drop}
use Rattle.sha2.specs.Sha256.{sha256}
use Rattle.esc_tables.specs.DepositValue.{DepositValue}
use Rattle.esc_tables.specs.Reading.{most_rows, reading}
use Rattle.esc_apply.specs.declared.moves.Work.{Work}
use Rattle.esc_apply.specs.Front.{common_front}
use Rattle.esc_apply.specs.Moves.{cost}
use Rattle.esc_apply.specs.Tables.{mention_count}
use Rattle.esc_store.specs.StoreState.{step_at}
use Rattle.esc_events.specs.Apart.{WhereApart}
use Rattle.esc_events.specs.Events.{EventValue, union}
use Rattle.esc_events.specs.LatestTables.{IsChainOf}
use Rattle.esc_events.specs.StateAfter.{deposits_of, held_rows, held_body}

-- no work: nothing is done
abbrev pub no_work : Work
no_work = record { cleared = false; undone = 0; applied = 0; writes = 0 }

-- the cost of going from the chain of these rows after the events e to the chain of those after f,
-- by the bodies that are held then
abbrev pub chain_cost : List EventValue → List EventValue → List ℕ → List ℕ → Work
chain_cost e f before after =
    let old = map (step_at (union e)) before in
    let new = map (step_at (union f)) after in
    let past = drop (common_front old new) after in
    cost (deposits_of reading (held_body sha256 reading e) before) old new
    (deposits_of reading (held_body sha256 reading f) past)

module _ (e : List EventValue) (x : EventValue) where
  -- the work is the cost of going from the latest chain before the event to that with it
  pub record IsCostOf (work : Work) : Type 0 where
    pub before : List ℕ
    pub after : List ℕ
    pub latest_before : IsChainOf e before
    pub latest_after : IsChainOf (e ++ x ∷ []) after
    pub is_cost : work ≡ chain_cost e (e ++ x ∷ []) before after

  abbrev pub IsWorkOf : Work → Type 0
  IsWorkOf work = WhereApart (e ++ x ∷ []) (IsCostOf work)

  -- if the event adds no row to those that are held, no work was done. This is said of arrivals
  -- alone: a moment may move the chain without a new row
  abbrev pub IsIdle : Work → Type 0
  IsIdle work = WhereApart (e ++ x ∷ [])
      (held_rows sha256 reading (e ++ x ∷ []) ≡ held_rows sha256 reading e → work ≡ no_work)

-- each deposit that is read mentions no more keys than a bundle may have rows, 100,000
abbrev pub MentionsFew : Type 0
MentionsFew = (body : List ℕ) (d : DepositValue) → reading body ≡ Ok d
    → mention_count d ≤ most_rows
