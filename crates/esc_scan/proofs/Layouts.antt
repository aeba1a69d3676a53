-- What the sixteen shapes give, joined to rows with the rowids from 1 to 16.
use Rattle.std.proofs.Common.{◌≡◌, ℕ, zero, suc, ◌+◌, ◌<◌, pos, List, [], ◌∷◌, map, length}
use Rattle.std.proofs.Common.{get_or, Less, Equal, refl, sym, ap, ◌∙◌, arith}
use Rattle.std.proofs.lemmas.Bool.Decides.{nat_tests}
use Rattle.std.proofs.lemmas.Int.{ints}
use Rattle.sqlite_value.specs.declared.value.Value.TheVariants.{Int}
use Rattle.sqlite_value.specs.Order.{Row, column, value_cmp}
use Rattle.sqlite_value.specs.Keys.{plain}
use Rattle.sqlite_value.proofs.OrderLemmas.{value_cmp-Int}
use Rattle.sqlite_trees.specs.declared.store.Shape.{Shape}
use Rattle.sqlite_trees.specs.declared.store.Shape.TheVariants.{Absent, Table, Index}
use Rattle.sqlite_trees.specs.Objects.{shape_code, number_in, row_for}
use Rattle.sqlite_trees.specs.Listing.{same_code}
use Rattle.sqlite_store.specs.declared.catalog.Wanted.{Wanted}
use Rattle.sqlite_store.specs.Catalog.{shape_at, reals_at}
use Rattle.sqlite_store.specs.Joined.{joined}
use Rattle.sqlite_store.specs.Listed.{is_listed}
use Rattle.sqlite_store.specs.Listing.{listed_from, reals_if_present, all_shapes}
use Rattle.sqlite_store.proofs.ListingLemmas.{named_shape, named_reals}
use Rattle.sqlite.specs.Opening.{unrooted}
use Rattle.esc_sql.specs.StoreTable.{StoreTable, Listed, Receipts, Held, Steps, Objects, Undo, Parked}
use Rattle.esc_sql.specs.StoreTable.{Moment, schema_table}
use Rattle.esc_scan.specs.Reads.{HasTable}
use Rattle.esc_scan.specs.Opening.{AreNumbered, HasTables}

abbrev Layout : Type 0
Layout = Shape × ℕ

abbrev none : Layout
none = (Absent, 0)

abbrev table : Layout
table = (Table, 0)

abbrev index : Layout
index = (Index plain, 0)

-- the shapes of a store's trees, by their numbers
abbrev pub layouts : List Layout
layouts = table ∷ table ∷ index ∷ index ∷ table ∷ index
    ∷ table ∷ table ∷ index ∷ table ∷ index ∷ table ∷ index ∷ table ∷ index ∷ table ∷ []

id_below : (a b : ℕ) → a < b → value_cmp (Int (pos a)) (Int (pos b)) ≡ Less
id_below a b h = value_cmp-Int (pos a) (pos b) ∙ grind (arith, ints, nat_tests)

id_same : (a b : ℕ) → a ≡ b → value_cmp (Int (pos a)) (Int (pos b)) ≡ Equal
id_same a b h = value_cmp-Int (pos a) (pos b) ∙ grind (arith, ints, nat_tests)

abbrev AreNumberedFrom : ℕ → List Row → Type 0
AreNumberedFrom from rows = (k : ℕ) → k < length rows → column (get_or rows k []) 0 ≡ Int (pos (from + k + 1))

abbrev Tells : Row → Layout → Type 0
Tells row layout = (number_in (column row 5) ≡ shape_code layout.0) × (number_in (column row 6) ≡ layout.1)

-- the row of a tree tells the shape at its place
row_tells : (from : ℕ) (rows : List Row) (all : List Layout) (at t : ℕ)
    → length all ≡ length rows → AreNumberedFrom from rows → at < length rows → t ≡ from + at
    → Tells (row_for (joined (map unrooted rows) all) t) (get_or all at none)
row_tells from [] all at t len ids low is = absurd (omega arith)
row_tells from (r ∷ rows) [] at t len ids low is = absurd (omega arith)
row_tells from (r ∷ rows) (x ∷ all) zero t len ids low is =
    rw (ids 0 (omega arith), id_same (from + 0 + 1) (t + 1) (omega arith)) (refl, refl)
row_tells from (r ∷ rows) (x ∷ all) (suc at) t len ids low is =
    rw (ids 0 (omega arith), id_below (from + 0 + 1) (t + 1) (omega arith))
    (row_tells (from + 1) rows all at t (omega arith) (λ k h. let e : from + 1 + k + 1 ≡ from
    + suc k + 1 = omega arith in rw e (ids (suc k) (omega arith))) (omega arith) (omega arith))

module _ (ours : List Wanted) (listed : List Row) (numbered : AreNumbered listed)
    (same : listed_from 0 ours ≡ joined (map unrooted listed) layouts) where
  tells : (t : ℕ) → t < 16 → Tells (row_for (listed_from 0 ours) t) (get_or layouts t none)
  tells t low = rw same (row_tells 0 listed layouts t t (sym numbered.0)
      (λ k h. let e : 0 + k + 1 ≡ k + 1 = omega arith in
      rw e (numbered.1 k (omega (arith, numbered.0)))) (omega (arith, numbered.0)) (omega arith))

  abbrev IsTable : ℕ → Type 0
  IsTable t = (shape_at ours t ≡ Table) × (reals_at ours t ≡ 0)

  is_table : (t : ℕ) → t < 16 → get_or layouts t none ≡ table → IsTable t
  is_table t low is =
      let told = tells t low in
      let code = (is_listed ours).shapes t (omega arith) (omega arith)
      ∙ told.0 ∙ ap (λ (l : Layout). shape_code l.0) is in
      let shape = sym (named_shape t (omega arith) ours) ∙ same_code (all_shapes ours t) Table code in
      let reals = (is_listed ours).columns t (omega arith) (omega arith) ∙ told.1 ∙ ap (λ (l : Layout). l.1) is in (
        shape,
        sym (ap (λ s. reals_if_present s (reals_at ours t)) shape)
            ∙ sym (named_reals t (omega arith) ours) ∙ reals,
      )

  has_table : (t : StoreTable) → HasTable ours (schema_table t)
  has_table Listed = let it = is_table 1 (omega arith) refl in record { low = omega arith; shape = it.0; reals = it.1 }
  has_table Receipts = let it = is_table 4 (omega arith) refl in
      record { low = omega arith; shape = it.0; reals = it.1 }
  has_table Held = let it = is_table 6 (omega arith) refl in record { low = omega arith; shape = it.0; reals = it.1 }
  has_table Steps = let it = is_table 7 (omega arith) refl in record { low = omega arith; shape = it.0; reals = it.1 }
  has_table Objects = let it = is_table 9 (omega arith) refl in record { low = omega arith; shape = it.0; reals = it.1 }
  has_table Undo = let it = is_table 11 (omega arith) refl in record { low = omega arith; shape = it.0; reals = it.1 }
  has_table Parked = let it = is_table 13 (omega arith) refl in record { low = omega arith; shape = it.0; reals = it.1 }
  has_table Moment = let it = is_table 15 (omega arith) refl in record { low = omega arith; shape = it.0; reals = it.1 }

  is_index : (t : ℕ) → t < 16 → get_or layouts t none ≡ index
      → (shape_at ours t ≡ Index plain) × (reals_at ours t ≡ 0)
  is_index t low is =
      let told = tells t low in
      let code = (is_listed ours).shapes t (omega arith) (omega arith)
      ∙ told.0 ∙ ap (λ (l : Layout). shape_code l.0) is in
      let shape = sym (named_shape t (omega arith) ours) ∙ same_code (all_shapes ours t) (Index plain) code in
      let reals = (is_listed ours).columns t (omega arith) (omega arith) ∙ told.1 ∙ ap (λ (l : Layout). l.1) is in (
        shape,
        sym (ap (λ s. reals_if_present s (reals_at ours t)) shape)
            ∙ sym (named_reals t (omega arith) ours) ∙ reals,
      )

  pub has_tables : HasTables ours
  has_tables = record {
    keys = let it = is_index 10 (omega arith) refl in record { low = omega arith; shape = it.0 };
    no_reals = (is_index 10 (omega arith) refl).1;
    info = let it = is_table 0 (omega arith) refl in record { low = omega arith; shape = it.0; reals = it.1 };
    tables = has_table;
  }
