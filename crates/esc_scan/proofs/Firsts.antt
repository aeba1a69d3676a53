-- The first of a table's rows, read as a value.
use Rattle.std.proofs.Common.{◌≡◌, ℕ, ℤ, pos, Bool, List, [], ◌∷◌, map, filter, Option, Some, None}
use Rattle.std.proofs.Common.{option_map, slice_get, refl, sym, ap, ◌∙◌}
use Rattle.std.specs.Ordering.{int_eq, is_eq}
use Rattle.sqlite_value.specs.declared.value.Value.TheVariants.{Int}
use Rattle.sqlite_value.specs.Order.{Row, column}
use Rattle.sqlite_value.proofs.OrderLemmas.{value_cmp-Int}
use Rattle.sqlite_trees.specs.Tree.{Trees, has_rowid}
use Rattle.sqlite_keyed.proofs.ListLemmas.{filter-map, filter_same, slice_get-filter}
use Rattle.sqlite_keyed.specs.Keyed.{get_by}
use Rattle.esc_sql.specs.Schema.{info_tree}
use Rattle.esc_sql.specs.Rows.{HeldRow, ObjectRow, MomentRow, held_number, info_row}
use Rattle.esc_sql.specs.StoreTable.{StoreTable, Held, Objects, Moment, RowOf, row_number, stored_row}
use Rattle.esc_sql.specs.declared.object.StoredObject.{StoredObject}
use Rattle.esc_sql.specs.Entries.{stored_entry}
use Rattle.esc_sql.specs.Content.{Content, HoldsRows, moment_set}
use Rattle.esc_sql.specs.Changes.{body_of, object_entry}
use Rattle.esc_scan.specs.declared.held.HeldBody.{HeldBody}
use Rattle.esc_scan.specs.declared.moment.StoredMoment.{StoredMoment}
use Rattle.esc_scan.specs.declared.version.StoredVersion.{StoredVersion}
use Rattle.esc_scan.specs.Scanning.{ReadsRow, ReadsFirst}
use Rattle.esc_scan.specs.Bodies.{body_read, body_of_row, held_bytes}
use Rattle.esc_scan.specs.Moments.{moment_read, watermark_of_moment}
use Rattle.esc_scan.specs.ObjectKeys.{object_with}
use Rattle.esc_scan.specs.Versions.{RowTellsVersion, version_in, version_read}

module _ (t : StoreTable) {V E : Type 0} (shown : V → E) (told : RowOf t → E) where
  pub first_is : (rs : List (RowOf t)) (found : Option V) (rows : List Row)
      → rows ≡ map (stored_row t) rs → ReadsFirst (ReadsRow t shown told) rows found
      → option_map shown found ≡ option_map told (slice_get rs 0)
  first_is [] None rows is h = refl
  first_is [] (Some found) rows is h = let both : h.0 ∷ h.1 ≡ [] = sym h.2 ∙ is in absurd (cc)
  first_is (r ∷ rs) None rows is h =
      let both : [] ≡ stored_row t r ∷ map (stored_row t) rs = sym h ∙ is in absurd (cc)
  first_is (r ∷ rs) (Some found) rows is h =
      let both : h.0 ∷ h.1 ≡ stored_row t r ∷ map (stored_row t) rs = sym h.2 ∙ is in
      let same : h.0 ≡ stored_row t r = cc in
      ap Some (h.3 r same)

-- ---- the moment

first_moment : (ms : List MomentRow) → option_map watermark_of_moment (slice_get ms 0) ≡ moment_set ms
first_moment [] = refl
first_moment (m ∷ ms) = refl

-- the first row of the table of the moment has it
pub moment_is : (ms : List MomentRow) (found : Option StoredMoment) (rows : List Row) → rows ≡ map
    (stored_row Moment) ms → ReadsFirst (ReadsRow Moment moment_read watermark_of_moment) rows found
    → option_map moment_read found ≡ moment_set ms
moment_is ms found rows is h = first_is Moment moment_read watermark_of_moment ms found rows is h ∙ first_moment ms

-- ---- the row with a rowid

found_at : (t : StoreTable) {V E : Type 0} (shown : V → E) (told : RowOf t → E)
    (id : ℤ) (rs : List (RowOf t)) (found : Option V) (rows : List Row) → rows ≡ map (stored_row t) rs
    → ReadsFirst (ReadsRow t shown told) (filter (has_rowid id) rows) found
    → option_map shown found ≡ option_map told (get_by (row_number t) rs id)
found_at t shown told id rs found rows is h =
    let here : RowOf t → Bool = λ r. int_eq (row_number t r) id in
    let picked : filter (has_rowid id) rows ≡ map (stored_row t) (filter here rs) =
    ap (filter (has_rowid id)) is ∙ filter-map (has_rowid id) (stored_row t) rs
    ∙ ap (map (stored_row t)) (filter_same _ here (λ r. ap is_eq (value_cmp-Int (row_number t r) id)) rs) in
    first_is t shown told (filter here rs) found _ picked h ∙ ap (option_map told) (slice_get-filter here rs)

-- the row with an object's number has the object
pub object_is : (id : ℤ) (os : List ObjectRow) (found : Option StoredObject) (rows : List Row)
    → rows ≡ map (stored_row Objects) os
    → ReadsFirst (ReadsRow Objects stored_entry object_entry) (filter (has_rowid id) rows) found
    → option_map stored_entry found ≡ object_with id os
object_is = found_at Objects stored_entry object_entry

-- ---- the body of a row

read_bytes : (o : Option HeldBody)
    → option_map held_bytes o ≡ option_map (λ (x : ℕ × List ℕ). x.1) (option_map body_read o)
read_bytes None = refl
read_bytes (Some it) = refl

row_bytes : (o : Option HeldRow) → option_map (λ (x : ℕ × List ℕ). x.1) (option_map body_of_row o)
    ≡ option_map (λ (h : HeldRow). h.body) o
row_bytes None = refl
row_bytes (Some h) = refl

-- the row with a manifest row's number has its body
pub body_is : (row : ℕ) (hs : List HeldRow) (found : Option HeldBody) (rows : List Row)
    → rows ≡ map (stored_row Held) hs
    → ReadsFirst (ReadsRow Held body_read body_of_row) (filter (has_rowid (pos row)) rows) found
    → option_map held_bytes found ≡ body_of row hs
body_is row hs found rows is h =
    read_bytes found ∙ ap (option_map (λ (x : ℕ × List ℕ). x.1))
    (found_at Held body_read body_of_row (pos row) hs found rows is h)
    ∙ row_bytes (get_by held_number hs (pos row))

-- ---- the version

-- the first row of the info table has the version
pub version_is : (found : Option StoredVersion) (trees : Trees) → ReadsFirst RowTellsVersion
    (trees info_tree) found → option_map Int (option_map version_read found) ≡ version_in trees
version_is None trees h = rw h refl
version_is (Some found) trees h = rw h.2 (ap Some (sym h.3))

-- the version that a store's content is kept with
pub version_two : (found : Option StoredVersion) (trees : Trees) (c : Content) → HoldsRows trees c
    → ReadsFirst RowTellsVersion (trees info_tree) found → option_map version_read found ≡ Some (pos 2)
version_two None trees c holds h = let both : [] ≡ info_row ∷ [] = sym h ∙ holds.info in absurd (cc)
version_two (Some found) trees c holds h =
    let both : h.0 ∷ h.1 ≡ info_row ∷ [] = sym h.2 ∙ holds.info in
    let same : h.0 ≡ info_row = cc in
    let told : Int (version_read found) ≡ Int (pos 2) = sym h.3 ∙ ap (λ (r : Row). column r 2) same in
    let is : version_read found ≡ pos 2 = cc in
    ap Some is
