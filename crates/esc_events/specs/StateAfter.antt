-- What is held and parked after a list of events, and what a store keeps that stands for it.
use Rattle.std.specs.Prelude.{◌≡◌, ◌⊎◌, ℕ, Bool, true, ◌&&◌, not, if◌then◌else◌, List, []}
use Rattle.std.specs.Prelude.{◌∷◌, map}
use Rattle.std.specs.Prelude.{filter, Option, Some, None, Result, Ok, Err, option_map, is_some}
use Rattle.std.specs.Prelude.{is_none, IsSome}
use Rattle.std.specs.List.{find, Any}
use Rattle.std.specs.Str.{bytes_eq}
use Rattle.std.specs.FinSet as set
use Rattle.esc_bundle.specs.declared.refusal.Refusal.{Refusal}
use Rattle.esc_tables.specs.DepositValue.{DepositValue}
use Rattle.esc_manifest.specs.declared.row.MRow.{MRow}
use Rattle.esc_manifest.specs.ManifestRows.{no_row}
use Rattle.esc_chain.specs.Chain.{Rows, IsLatestChainAt}
use Rattle.esc_apply.specs.Images.{chain_state}
use Rattle.esc_store.specs.StoreState.{StoreState, SaysHeld, TellsUnlisted}
pub use Rattle.esc_store.specs.Holding.{TellsOf}
use Rattle.esc_events.specs.Events.{EventValue, Coming, union, comings, last_moment}
use Rattle.esc_events.specs.Assessment.{assessment, held_row, row_with_digest}
use Rattle.esc_events.specs.Receipts.{holds_row, receipts_of}

-- a placeholder where there is no body, or no deposit reads from it; a held row never has it
abbrev pub no_deposit : DepositValue
no_deposit = record {
  header = no_row.header;
  counts = [];
  deletes = [];
  contents = [];
  orphans = 0;
}

abbrev pub or_no_deposit : Result DepositValue Refusal → DepositValue
or_no_deposit (Ok d) = d
or_no_deposit (Err n) = no_deposit

-- the deposit that reads from a body
abbrev pub deposit_of : (List ℕ → Result DepositValue Refusal) → Option (List ℕ) → DepositValue
deposit_of reads None = no_deposit
deposit_of reads (Some body) = or_no_deposit (reads body)

-- the deposits of rows, by the bodies that are held
abbrev pub deposits_of : (List ℕ → Result DepositValue Refusal) → (ℕ → Option (List ℕ)) → List ℕ
    → List DepositValue
deposits_of reads bodies rows = map (λ r. deposit_of reads (bodies r)) rows

abbrev pub with_some : Option ℕ → List ℕ → List ℕ
with_some None rows = rows
with_some (Some r) rows = r ∷ rows

-- it is an element of the list
abbrev pub Among : {X : Type 0} → List X → X → Type 0
Among [] a = ⊥
Among (b ∷ l) a = (a ≡ b) ⊎ Among l a

-- the body of an arrival, if there is one
abbrev pub arrived_body : Option Coming → Option (List ℕ)
arrived_body c = option_map (λ (c : Coming). c.body) c

-- these rows are those that have a body
abbrev pub HaveBodies : (ℕ → Option (List ℕ)) → Rows → Type 0
HaveBodies bodies held = (r : ℕ) → set.contains held r ≡ is_some (bodies r)

module _ (digest : List ℕ → List ℕ) (reads : List ℕ → Result DepositValue Refusal) where
  -- the body of the arrival was not kept: it is an early one, and no row listed its body then
  abbrev pub is_lost : Coming → Bool
  is_lost c = c.early && is_none (row_with_digest c.rows (digest c.body))

  -- judged by these listed rows, the body that came is the deposit of row r
  abbrev pub holds_by : List MRow → ℕ → Coming → Bool
  holds_by m r c = holds_row r (assessment digest reads m c.body)

  -- the body that came has this digest
  abbrev pub has_digest : List ℕ → Coming → Bool
  has_digest d c = bytes_eq (digest c.body) d

  -- the rows whose deposits came, judged by the listed rows m, with repeats
  abbrev pub rows_of_arrivals : List MRow → List Coming → List ℕ
  rows_of_arrivals m [] = []
  rows_of_arrivals m (c ∷ l) =
      with_some (held_row (assessment digest reads m c.body)) (rows_of_arrivals m l)

  module _ (e : List EventValue) where
    -- the arrivals whose bodies count: all whose body was kept when they came
    abbrev pub kept_arrivals : List Coming
    kept_arrivals = filter (λ c. not (is_lost c)) (comings e)

    -- the rows that are held after a list of events: each body that counts is judged by all rows
    -- that are listed in the end
    abbrev pub held_rows : Rows
    held_rows = set.from_list (rows_of_arrivals (union e) kept_arrivals)

    -- the body that is held for a row after a list of events
    abbrev pub held_body : ℕ → Option (List ℕ)
    held_body r = arrived_body (find (holds_by (union e) r) kept_arrivals)

    -- the body with this digest that counts, if no row lists it
    abbrev pub parked_body : List ℕ → Option (List ℕ)
    parked_body d =
        if is_some (row_with_digest (union e) d) then None
        else arrived_body (find (has_digest d) kept_arrivals)

    -- no two different bodies that count have the same digest
    abbrev pub IsApart : Type 0
    IsApart = (a b : Coming) → Among kept_arrivals a → Among kept_arrivals b
        → digest a.body ≡ digest b.body → a.body ≡ b.body

    -- this body came in an arrival that counts, and is the deposit of row r
    pub record CameFor (r : ℕ) (body : List ℕ) : Type 0 where
      pub arrival : Coming
      pub among : Among kept_arrivals arrival
      pub holds : holds_by (union e) r arrival ≡ true
      pub is_body : arrival.body ≡ body

    -- this body came in an arrival that counts, and has this digest
    pub record CameWith (d body : List ℕ) : Type 0 where
      pub arrival : Coming
      pub among : Among kept_arrivals arrival
      pub digest_is : digest arrival.body ≡ d
      pub is_body : arrival.body ≡ body

    -- what is kept, except for the chain and its tables: the rows that are listed, the receipts
    -- that the arrivals leave, the bodies that are held and parked (said only if no two different
    -- bodies have one digest), and the moment that is set. Even if bodies share a digest, each body
    -- that is held or parked did come; each row that a receipt says is held has a body; and a
    -- receipt accounts for each body that is held or parked
    pub record AreBooks (k : StoreState) : Type 0 where
      pub listed : k.listed ≡ union e
      pub receipts : k.receipts ≡ receipts_of digest reads e
      pub bodies : IsApart → (r : ℕ) → k.bodies r ≡ held_body r
      pub parked : IsApart → (d : List ℕ) → k.parked d ≡ parked_body d
      pub moment : k.moment ≡ last_moment e
      pub came : (r : ℕ) (body : List ℕ) → k.bodies r ≡ Some body → CameFor r body
      pub waits : (d body : List ℕ) → k.parked d ≡ Some body → CameWith d body
      pub told : (r : ℕ) → Any (SaysHeld r) k.receipts → IsSome (k.bodies r)
      pub held_told : (r : ℕ) → IsSome (k.bodies r) → Any (TellsOf (union e) r) k.receipts
      pub parked_told : (d : List ℕ) → IsSome (k.parked d) → Any (TellsUnlisted d) k.receipts

    -- the store keeps these books, the rows of the latest chain of the rows that have a body up to
    -- the moment that is set, and that chain's tables and before-images
    pub record IsStateAfter (k : StoreState) : Type 0 where
      pub books : AreBooks k
      pub held : Rows
      pub have_bodies : HaveBodies k.bodies held
      pub chain : IsLatestChainAt k.listed held k.moment k.steps
      pub registry : k.registry ≡ chain_state (deposits_of reads k.bodies k.steps)
