-- A row that goes at the end of the latest chain.
use Rattle.std.specs.Prelude.{◌≡◌, ◌↔◌, ◌⊎◌, ℕ, ◌<◌, ℤ, List, [], ◌∷◌, ◌++◌}
use Rattle.std.specs.Prelude.{length, Option}
use Rattle.std.specs.FinSet as set
use Rattle.std.specs.List.{Contains}
use Rattle.esc_envelope.specs.declared.place.Place.{Place}
use Rattle.esc_envelope.specs.Place.{IsBefore}
use Rattle.esc_manifest.specs.declared.row.MRow.{MRow}
use Rattle.esc_manifest.specs.ManifestRows.{place_at, watermark_at}
use Rattle.esc_chain.specs.declared.base.Base.TheVariants.{At}
use Rattle.esc_chain.specs.Base.{IsBase}
use Rattle.esc_chain.specs.Chain.{Rows, IsHeld, IsBy, IsLatestChainAt}

-- row q is listed, and is row r or has a place before that of r
abbrev pub IsUpToRow : List MRow → ℕ → ℕ → Type 0
IsUpToRow m r q = (q < length m) × ((q ≡ r) ⊎ IsBefore (place_at m q) (place_at m r))

-- row r is listed and not later than the moment, and comes after all others of these rows, which
-- are listed too
pub record ComesLast (m : List MRow) (rows : List ℕ) (t : Option ℤ) (r : ℕ) : Type 0 where
  pub listed : r < length m
  pub by : IsBy t (watermark_at m r)
  pub last : (q : ℕ) → Contains rows q → IsUpToRow m r q

-- row r comes last of these rows, and builds on this place
abbrev pub GoesAtEnd : List MRow → List ℕ → Option ℤ → Place → ℕ → Type 0
GoesAtEnd m rows t p r = ComesLast m rows t r × IsBase m r (At p)

-- these rows are those of the set, and r
abbrev pub HasOneMore : Rows → List ℕ → ℕ → Type 0
HasOneMore h rows r = (q : ℕ) → Contains rows q ↔ (IsHeld h q ⊎ (q ≡ r))

-- wherever the latest chain of these rows without r ends at this place, that of all of them is the
-- same chain with r at its end
abbrev pub LengthensLatest : List MRow → List ℕ → Option ℤ → Place → ℕ → Type 0
LengthensLatest m rows t p r = (h : Rows) (c : List ℕ) (s : ℕ) → HasOneMore h rows r
    → place_at m s ≡ p → IsLatestChainAt m h t (c ++ s ∷ [])
    → IsLatestChainAt m (set.from_list rows) t (c ++ s ∷ r ∷ [])
