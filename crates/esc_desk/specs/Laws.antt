-- Laws of lists of events, by the definitions alone.
use Rattle.std.specs.Prelude.{◌≡◌, ℕ, List, [], ◌++◌, map, Some}
use Rattle.std.specs.FinSet as set
use Rattle.sha2.specs.Sha256.{sha256}
use Rattle.esc_tables.specs.Reading.{reading}
use Rattle.esc_manifest.specs.declared.row.MRow.{MRow}
use Rattle.esc_manifest.specs.Accepted.{IsAccepted}
use Rattle.esc_chain.specs.Chain.{IsLatestChain}
use Rattle.esc_chain.specs.Laws.{ListEqualRows, HoldEqualRows, rows_along}
use Rattle.esc_apply.specs.Images.{chain_state}
use Rattle.esc_store.specs.StoreState.{StoreState}
use Rattle.esc_store.specs.ReplyValue.{ReplyValue}
use Rattle.esc_events.specs.Apart.{WhereApart}
use Rattle.esc_events.specs.ArrivalValue.{ArrivalValue}
use Rattle.esc_events.specs.Events.{EventValue, Coming, union, coming, last_moment, manifest_then}
use Rattle.esc_events.specs.Receipts.{distinct, receipts_after, reply_to}
use Rattle.esc_events.specs.StateAfter.{Among, kept_arrivals, deposits_of, rows_of_arrivals}
use Rattle.esc_events.specs.StateAfter.{held_rows, held_body, IsStateAfter}
use Rattle.esc_events.specs.LatestTables.{IsChainOf, tables_of_chain}

-- a store that stands for these events has the tables of the latest chain
pub record HoldsTablesOf (e : List EventValue) (k : StoreState) : Type 0 where
  pub latest : IsChainOf e k.steps
  pub content : k.registry.content ≡ tables_of_chain e k.steps

abbrev pub TablesAreOfEvents : Type 0
TablesAreOfEvents = (e : List EventValue) (k : StoreState) → IsStateAfter sha256 reading e k
    → WhereApart e (HoldsTablesOf e k)

-- each reply after the events e is the one after the events f
abbrev pub KeepsReplies : List EventValue → List EventValue → Type 0
KeepsReplies e f = (a : ArrivalValue) (r : ReplyValue) → reply_to sha256 reading e a ≡ Some r
    → reply_to sha256 reading f a ≡ Some r

-- a reply that was given stays as it was, whatever comes later
abbrev pub RepliesStay : Type 0
RepliesStay = (e more : List EventValue) → KeepsReplies e (e ++ more)

-- ---- a manifest, and then arrivals

-- the arrivals as they came, where these rows were listed before
abbrev pub came_with : List MRow → List ArrivalValue → List Coming
came_with m l = map (coming m) l

-- what a manifest and arrivals leave: the rows, the receipts of the distinct arrivals, the latest
-- chain of the rows that any arrival holds, and that chain's tables and before-images
pub record IsLeftByArrivals (m : List MRow) (l : List ArrivalValue) (k : StoreState) : Type 0 where
  pub listed : k.listed ≡ m
  pub receipts : k.receipts
      ≡ receipts_after sha256 reading [] (distinct sha256 reading (came_with m l))
  pub chain : IsLatestChain m
      (set.from_list (rows_of_arrivals sha256 reading m (came_with m l))) k.steps
  pub registry : k.registry
      ≡ chain_state (deposits_of reading (held_body sha256 reading (manifest_then m l)) k.steps)

abbrev pub AreLeftByArrivals : Type 0
AreLeftByArrivals = (m : List MRow) (l : List ArrivalValue) (k : StoreState)
    → IsStateAfter sha256 reading (manifest_then m l) k
    → WhereApart (manifest_then m l) (IsLeftByArrivals m l k)

-- ---- two lists

-- no two different bodies, one of either list, have the same digest
abbrev pub AreApart : List EventValue → List EventValue → Type 0
AreApart e f = (a b : Coming) → Among (kept_arrivals sha256 reading e) a
    → Among (kept_arrivals sha256 reading f) b → sha256 a.body ≡ sha256 b.body → a.body ≡ b.body

-- the same rows are listed, in the same order, the same are held, the same moment is set, and no
-- two different bodies, one of either list, have the same digest
pub record HoldTheSame (e f : List EventValue) : Type 0 where
  pub listed : union e ≡ union f
  pub held : held_rows sha256 reading e ≡ held_rows sha256 reading f
  pub moment : last_moment e ≡ last_moment f
  pub apart : AreApart e f

-- two stores keep the same, but for the receipts and the parked bodies: the rows, the bodies, the
-- chain, its tables and its before-images
pub record KeepTheSame (k l : StoreState) : Type 0 where
  pub listed : k.listed ≡ l.listed
  pub bodies : (r : ℕ) → k.bodies r ≡ l.bodies r
  pub steps : k.steps ≡ l.steps
  pub registry : k.registry ≡ l.registry

-- where the same rows are listed, in the same order, and the same are held, the same is kept, in
-- whatever order, however often and under whatever numbers the deposits came
abbrev pub SameHeldSameKept : Type 0
SameHeldSameKept = (e f : List EventValue) (k l : StoreState) → IsAccepted (union e)
    → HoldTheSame e f
    → WhereApart e (WhereApart f (IsStateAfter sha256 reading e k → IsStateAfter sha256 reading f l
    → KeepTheSame k l))

-- ---- two lists by which the rows are listed in different orders

-- the same rows are listed, in whatever order, the same are held, the same moment is set, and no
-- two different bodies, one of either list, have the same digest
pub record HoldTheSameRows (e f : List EventValue) : Type 0 where
  pub listed : ListEqualRows (union e) (union f)
  pub held : HoldEqualRows (union e) (held_rows sha256 reading e) (union f)
      (held_rows sha256 reading f)
  pub moment : last_moment e ≡ last_moment f
  pub apart : AreApart e f

-- two stores have the same rows along the chain, and its tables and before-images are the same
pub record KeepTheSameTables (k l : StoreState) : Type 0 where
  pub chain : rows_along k.listed k.steps ≡ rows_along l.listed l.steps
  pub registry : k.registry ≡ l.registry

-- where the same rows are listed and held the tables are the same, in whatever order the rows were
-- listed, and in whatever order, however often and under whatever numbers the deposits came
abbrev pub SameRowsSameTables : Type 0
SameRowsSameTables = (e f : List EventValue) (k l : StoreState) → IsAccepted (union e)
    → HoldTheSameRows e f
    → WhereApart e (WhereApart f (IsStateAfter sha256 reading e k → IsStateAfter sha256 reading f l
    → KeepTheSameTables k l))
