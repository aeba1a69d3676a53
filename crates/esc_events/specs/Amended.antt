-- What becomes of held and parked bodies where rows are added to those that are listed.
use Rattle.std.specs.Prelude.{ℕ, ◌-◌, zero, suc, nat_lt, Bool, ◌&&◌, not, if◌then◌else◌, filter}
use Rattle.std.specs.Prelude.{List, [], ◌∷◌, length, Option, Some, None, is_some}
use Rattle.esc_tables.specs.Reading.{reading}
use Rattle.esc_manifest.specs.declared.row.MRow.{MRow}
use Rattle.esc_manifest.specs.Extension.{extended}
use Rattle.esc_manifest.specs.ManifestRows.{row_at}
use Rattle.esc_store.specs.StoreState.{StoreState, with_adopted, with_listed, with_parked}
use Rattle.esc_events.specs.Assessment.{found, row_with_digest}
use Rattle.esc_events.specs.Receipts.{holds_row}

-- the body, if there is one and it is the deposit of row r of n; else none
abbrev pub judged : List MRow → ℕ → Option (List ℕ) → Option (List ℕ)
judged n r None = None
judged n r (Some body) = if holds_row r (found n r (reading body)) then Some body else None

-- consecutive numbers: the first argument is the first of them, the second how many there are
abbrev pub numbers_from : ℕ → ℕ → List ℕ
numbers_from first zero = []
numbers_from first (suc count) = first ∷ numbers_from (suc first) count

-- for listed rows n and parked bodies
module _ (n : List MRow) (parked : List ℕ → Option (List ℕ)) where
  -- the body that is parked under the digest of a row
  abbrev pub parked_for : ℕ → Option (List ℕ)
  parked_for r = parked (row_at n r).digest

  -- a body is parked for the row, and is its deposit; one is parked for the row, and isn't
  abbrev pub is_adopted : ℕ → Bool
  is_adopted r = is_some (judged n r (parked_for r))

  abbrev pub is_dropped : ℕ → Bool
  is_dropped r = is_some (parked_for r) && not (is_adopted r)

  -- of the rows from this one on, those whose parked body is their deposit, and those whose parked
  -- body isn't
  abbrev pub adopted_rows : ℕ → List ℕ
  adopted_rows from = filter is_adopted (numbers_from from (length n - from))

  abbrev pub dropped_rows : ℕ → List ℕ
  dropped_rows from = filter is_dropped (numbers_from from (length n - from))

  -- the bodies that are held once the rows from this one on are new: those that were held, and for
  -- each new row its parked body, if that is its deposit
  abbrev pub amended_bodies : ℕ → (ℕ → Option (List ℕ)) → ℕ → Option (List ℕ)
  amended_bodies from bodies r =
      if nat_lt r from then bodies r
      else if nat_lt r (length n) then judged n r (parked_for r)
      else None

  -- the parked bodies that no row lists
  abbrev pub still_parked : List ℕ → Option (List ℕ)
  still_parked d = if is_some (row_with_digest n d) then None else parked d

-- what is kept, with the parked bodies of these rows of n held for them
abbrev pub with_all_adopted : List MRow → StoreState → List ℕ → StoreState
with_all_adopted n k [] = k
with_all_adopted n k (r ∷ rows) =
    let digest = (row_at n r).digest in
    with_all_adopted n (with_adopted k r digest (k.parked digest)) rows

-- what is kept, with no body parked under the digests of these rows of n
abbrev pub with_all_dropped : List MRow → StoreState → List ℕ → StoreState
with_all_dropped n k [] = k
with_all_dropped n k (r ∷ rows) =
    with_all_dropped n (with_parked k (row_at n r).digest None) rows

-- what is kept once more rows are listed: a parked body of a new row is held if it is the row's
-- deposit, and else dropped
abbrev pub amended_kept : StoreState → List MRow → StoreState
amended_kept k more =
    let n = extended k.listed more in
    let from = length k.listed in
    let adopted = with_all_adopted n (with_listed k n) (adopted_rows n k.parked from) in
    with_all_dropped n adopted (dropped_rows n k.parked from)
