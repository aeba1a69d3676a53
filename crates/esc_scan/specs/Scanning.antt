-- What a scan of a table gives, and what a read by scans says of a store's content.
use Rattle.std.specs.Prelude.{◌≡◌, Bool, true, false, List, [], ◌∷◌, Option, Some, None, Result}
use Rattle.std.specs.Prelude.{IfOk, unwrap_or}
use Rattle.sqlite_value.specs.Order.{Row}
use Rattle.sqlite_trees.specs.View.{View, IsClean, IsQuiet}
use Rattle.sqlite_trees.specs.declared.store.Store.{Ghosts}
use Rattle.esc_sql.specs.StoreTable.{StoreTable, RowOf, stored_row}
use Rattle.esc_sql.specs.Content.{Content, HoldsRows}

-- nothing but cursors has moved
abbrev pub OnlyCursors : View → View → Type 0
OnlyCursors old new = new ≡ record old { cursors = new.cursors }

-- the rows that the cursor of a scan has left to give
abbrev pub left_of : View → List Row
left_of v = unwrap_or (v.cursors 0) []

-- the scan gives the next of the rows left, or none is left
abbrev pub GivesNext : View → View → Row → Bool → Type 0
GivesNext old new row true = left_of old ≡ row ∷ left_of new
GivesNext old new row false = (left_of old ≡ []) × (left_of new ≡ [])

-- the next of the rows left is read as this value, or none is left
abbrev pub ReadsNext : {V : Type 0} → (Row → V → Type 0) → View → View → Option V → Type 0
ReadsNext IsRead old new None = (left_of old ≡ []) × (left_of new ≡ [])
ReadsNext IsRead old new (Some v) = (row : Row) × (left_of old ≡ row ∷ left_of new) × IsRead row v

-- the first of these rows is read as this value, or there is none
abbrev pub ReadsFirst : {V : Type 0} → (Row → V → Type 0) → List Row → Option V → Type 0
ReadsFirst IsRead rows None = rows ≡ []
ReadsFirst IsRead rows (Some v) = (row : Row) × (rest : List Row) × (rows ≡ row ∷ rest)
    × IsRead row v

-- a row of a table is read as what `told` says of it
abbrev pub ReadsRow : (t : StoreTable) → {V E : Type 0} → (V → E) → (RowOf t → E) → Row → V
    → Type 0
ReadsRow t shown told row v = (r : RowOf t) → row ≡ stored_row t r → shown v ≡ told r

-- A read by scans. Where it succeeds, and the disk has answered truly, `Says` holds of the result
-- and of the content of which the trees are the rows, and nothing but cursors has moved. However it
-- ends, nothing is committed, and a crash leaves nothing new.
pub record IsScan {S X E : Type 0} (g : Ghosts S) (old new : S) (Says : Content → X → Type 0)
    (result : Result X E) : Type 0 where
  pub quiet : IsQuiet g.view g.faults g.recovers g.is_shielded old new
  pub only : IsClean (g.view new) → IfOk result (λ _. OnlyCursors (g.view old) (g.view new))
  pub said : IsClean (g.view new)
      → IfOk result (λ x. (c : Content) → HoldsRows (g.view old).trees c → Says c x)
