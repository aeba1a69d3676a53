-- The used rows, and chains of them (this project's profile; the types are those of RFC 8909,
-- section 2).
use Rattle.std.specs.Prelude.{◌≡◌, ◌≢◌, ◌↔◌, ℕ, ◌<◌, ◌≤◌, ℤ, ◌≤ℤ◌, List, []}
use Rattle.std.specs.Prelude.{◌∷◌, length, reverse}
use Rattle.std.specs.Prelude.{slice_index, Option, Some, None, IsTrue}
use Rattle.std.specs.FinSet as set
use Rattle.std.specs.Ordering.{nat_cmp}
use Rattle.esc_envelope.specs.declared.place.DepositType.TheVariants.{Full}
use Rattle.esc_envelope.specs.declared.place.Place.{Place}
use Rattle.esc_manifest.specs.declared.row.MRow.{MRow}
use Rattle.esc_envelope.specs.Place.{IsUpTo}
use Rattle.esc_manifest.specs.ManifestRows.{place_at, kind_at, watermark_at, resend_at}
use Rattle.esc_manifest.specs.RowFaults.{most_manifest_rows}
use Rattle.esc_chain.specs.declared.base.Base.TheVariants.{At}
use Rattle.esc_chain.specs.Base.{IsBase}

-- a set of rows
abbrev pub Rows : Type 0
Rows = set.FinSet nat_cmp

-- the row is in the set
abbrev pub IsHeld : Rows → ℕ → Type 0
IsHeld h r = IsTrue (set.contains h r)

-- the rows are those of the manifest
abbrev pub InRange : List MRow → Rows → Type 0
InRange m h = (r : ℕ) → IsHeld h r → r < length m

-- a list of no more rows than a manifest may have, each of them held, a row of the manifest, and in
-- the list once
pub record AreHeldRows (m : List MRow) (h : Rows) (c : List ℕ) : Type 0 where
  pub few : length c ≤ most_manifest_rows
  pub held : (k : ℕ) → k < length c → IsHeld h (slice_index c k)
  pub in_range : (k : ℕ) → k < length c → slice_index c k < length m
  pub once : (j k : ℕ) → j < k → k < length c → slice_index c j ≢ slice_index c k

-- no row of the place is held
abbrev pub NoneHeld : List MRow → Rows → Place → Type 0
NoneHeld m h p = (r : ℕ) → IsHeld h r → place_at m r ≡ p → ⊥

-- a held row, of those of its place the one with the greatest resend
pub record IsUsed (m : List MRow) (h : Rows) (r : ℕ) : Type 0 where
  pub held : IsHeld h r
  pub greatest : (q : ℕ) → IsHeld h q → place_at m q ≡ place_at m r → resend_at m q ≤ resend_at m r

-- a way from row r back to a Full: r is a Full, or the next row is the used one at the place of r's
-- base, and the way goes on from there
abbrev pub LeadsBack : List MRow → Rows → ℕ → List ℕ → Type 0
LeadsBack m h r [] = kind_at m r ≡ Full
LeadsBack m h r (s ∷ rest) = IsBase m r (At (place_at m s)) × IsUsed m h s × LeadsBack m h s rest

-- a chain, listed from its end back to its Full
abbrev pub IsChainBack : List MRow → Rows → List ℕ → Type 0
IsChainBack m h [] = ⊥
IsChainBack m h (r ∷ rest) = IsUsed m h r × LeadsBack m h r rest

-- the watermark is not later than the moment, if there is one
abbrev pub IsBy : Option ℤ → ℤ → Type 0
IsBy None w = Unit {0}
IsBy (Some t) w = w ≤ℤ t

-- of the chains that end no later than the moment, the one whose end is the greatest place, listed
-- from its end back; the empty list if there is none
abbrev pub IsLatestBackAt : List MRow → Rows → Option ℤ → List ℕ → Type 0
IsLatestBackAt m h t [] = (q : ℕ) (other : List ℕ) → IsChainBack m h (q ∷ other)
    → IsBy t (watermark_at m q) → ⊥
IsLatestBackAt m h t (r ∷ rest) =
    IsChainBack m h (r ∷ rest) × IsBy t (watermark_at m r)
    × ((q : ℕ) (other : List ℕ) → IsChainBack m h (q ∷ other) → IsBy t (watermark_at m q)
    → IsUpTo (place_at m q) (place_at m r))

-- the latest chain up to the moment, from its Full to its end
abbrev pub IsLatestChainAt : List MRow → Rows → Option ℤ → List ℕ → Type 0
IsLatestChainAt m h t c = IsLatestBackAt m h t (reverse c)

-- the latest of all chains
abbrev pub IsLatestChain : List MRow → Rows → List ℕ → Type 0
IsLatestChain m h c = IsLatestChainAt m h None c

-- these are the rows of the set with a watermark not later than the moment
abbrev pub AreUntil : List MRow → Rows → Option ℤ → Rows → Type 0
AreUntil m h t g = (r : ℕ) → IsHeld g r ↔ (IsHeld h r × IsBy t (watermark_at m r))
