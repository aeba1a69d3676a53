-- All rows of a table, read one by one.
use Rattle.std.proofs.Common.{◌≡◌, List, [], ◌∷◌, map, Result, IfOk, OnOk}
use Rattle.std.proofs.Common.{refl, ap₂, subst, ◌∙◌}
use Rattle.std.proofs.lemmas.List.{map-id}
use Rattle.std.proofs.lemmas.Result.{IfOk-weaker}
use Rattle.sqlite_trees.specs.View.{IsClean, IsQuiet}
use Rattle.sqlite_trees.specs.declared.store.Store.{Ghosts}
use Rattle.esc_sql.specs.Reading.{AreRead}
use Rattle.esc_sql.specs.StoreTable.{StoreTable, RowOf, tree_of, stored_row}
use Rattle.esc_sql.specs.Content.{Content, HoldsRows, rows_of}
use Rattle.esc_scan.specs.Scanning.{OnlyCursors, ReadsRow, IsScan}

reads_rows : (t : StoreTable) {V E : Type 0} (shown : V → E)
    (told : RowOf t → E) (rs : List (RowOf t)) (vs : List V)
    → AreRead (ReadsRow t shown told) (map (stored_row t) rs) vs → map shown vs ≡ map told rs
reads_rows t shown told [] [] all = refl
reads_rows t shown told (r ∷ rs) (v ∷ vs) all = ap₂ ◌∷◌ (all.0 r refl) (reads_rows t shown told rs vs all.1)
reads_rows t shown told _ _ all = absurd all

module _ {S : Type 0} (g : Ghosts S) (t : StoreTable) {V E X F : Type 0} (shown : V → E)
    (result : Result X F) (items : X → List V) (old new : S) where
  -- what is told of each row
  pub scanned : (told : RowOf t → E)
      → IfOk result (λ all. IsClean (g.view new)
      → AreRead (ReadsRow t shown told) ((g.view old).trees (tree_of t)) (items all))
      → OnOk result (IsClean (g.view new) → OnlyCursors (g.view old) (g.view new))
      → IsQuiet g.view g.faults g.recovers g.is_shielded old new
      → IsScan g old new (λ c all. map shown (items all) ≡ map told (rows_of c t)) result
  scanned told reads only quiet = record {
    quiet = quiet;
    only = λ clean. IfOk-weaker result _ _ (λ _ h. h clean) only;
    said = λ clean. IfOk-weaker result _ (λ all. (c : Content)
        → HoldsRows (g.view old).trees c → map shown (items all) ≡ map told (rows_of c t))
        (λ all read c shows. reads_rows t shown told (rows_of c t) (items all) (subst (λ rows. AreRead
        (ReadsRow t shown told) rows (items all)) (shows.tables t) (read clean))) reads;
  }

module _ {S : Type 0} (g : Ghosts S) (t : StoreTable) {V X F : Type 0} (shown : V → RowOf t)
    (result : Result X F) (items : X → List V) (old new : S) where
  -- the rows themselves
  pub scanned_rows : IfOk result (λ all. IsClean (g.view new)
      → AreRead (ReadsRow t shown (λ r. r)) ((g.view old).trees (tree_of t)) (items all))
      → OnOk result (IsClean (g.view new) → OnlyCursors (g.view old) (g.view new))
      → IsQuiet g.view g.faults g.recovers g.is_shielded old new
      → IsScan g old new (λ c all. map shown (items all) ≡ rows_of c t) result
  scanned_rows reads only quiet =
      let scan = scanned g t shown result items old new (λ r. r) reads only quiet in
      record {
        quiet = quiet;
        only = scan.only;
        said = λ clean. IfOk-weaker result _ (λ all. (c : Content)
            → HoldsRows (g.view old).trees c → map shown (items all) ≡ rows_of c t)
            (λ all says c shows. says c shows ∙ map-id (rows_of c t)) (scan.said clean);
      }
