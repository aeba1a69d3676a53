-- A fixed text over one table of a store: what its query finds, what its DELETE leaves, and what its INSERT adds.
use Rattle.esc_sql.proofs.Common.{◌≡◌, ℕ, ◌<◌, pos, true, false, List, [], ◌∷◌, ◌++◌, Ok, refl}
use Rattle.esc_sql.proofs.Common.{filter, ◌≤◌, map, length, ap, subst, ◌∙◌, ℤ, Bool, slice_get, Some}
use Rattle.esc_sql.proofs.Common.{find, IsPermutation, Ordering, Less, is_eq, ◌/◌, IsPermutation-map}
use Rattle.esc_sql.proofs.Common.{IsTotalOrder, AllByRecursion, option_to_list, statement_of, runs_as}
use Rattle.esc_sql.proofs.Common.{Binary, Select, Insert, Delete, edit_of, edited, id_in, without_all}
use Rattle.esc_sql.proofs.Common.{Database, value_rows, understood, overlay, Output, output_cmp}
use Rattle.esc_sql.proofs.Common.{page, output, Chosen, Given, stamped, Schema, Values, State, mode_of}
use Rattle.esc_sql.proofs.Common.{Executes, Shown, Table, Term, col, IsAscending, rowid}
use Rattle.esc_sql.proofs.Common.{IsKeyedBy-insert_by, filter_same, map-map, ascending_weaker}
use Rattle.esc_sql.proofs.Common.{IsPermutation-sort_by, IsKeyedBy, insert_by, has_key, sort_by}
use Rattle.esc_sql.proofs.Common.{delete_where, ids_of, cast_row, Row, Key, Null, Int, Becomes}
use Rattle.esc_sql.proofs.Common.{HoldsContent, rows_of, Content, with_rows, store_schema, StoreTable}
use Rattle.esc_sql.proofs.Common.{tree_of}
use Rattle.esc_sql.proofs.Common.{stored_row, RowOf, schema_table, table_index, row_number, row_columns, all_of}
use Rattle.sqlite.proofs.Callers.{reads_as}
use Rattle.std.proofs.lemmas.List.Sorted.{IsPermutation-refl}
use Rattle.sqlite_keyed.proofs.KeyedLemmas.{IsKeyedBy-delete_where}
use Rattle.sqlite_keyed.proofs.ListLemmas.{filter_none}
use Rattle.esc_sql.proofs.Compiled.{IsWrite, IsQuery, IsQueryOver, program_of}
use Rattle.esc_sql.proofs.PartLemmas.{IsAsking, IsWriting, writing_as}
use Rattle.esc_sql.proofs.Sorts.{rises-sorted}
use Rattle.esc_sql.proofs.Forms.{uncounted, IsEdited, inserted, deleted, place_is, read_from, IsWritten}
use Rattle.esc_sql.proofs.Forms.{written, content_then}
use Rattle.esc_sql.proofs.Scan.{scan, no_limit, is_match, IsScanned, scanned, in_order, short_rises}
use Rattle.esc_sql.proofs.Typed.{cut_typed, put_typed, insert_last, below, every, rises, was_free}
use Rattle.esc_sql.proofs.Finds.{alone}

-- ---- SELECT

-- what a query over one tree shows, where the tree has typed rows
pub asks_tree : {X : Type 0} (stored : X → Row) (out : X → Output)
    (tree : ℕ) {tests project : List Term} {order : List (Term × Key)} {limit : ℤ} {params : Row}
    {text : List ℕ} {schema : Schema} → IsQueryOver schema text (scan tree tests project order limit)
    → (old new : State) (rows : List Row) → old.now.schema ≡ schema → Shown text params old new rows
    → ((x : X) → output (scan tree tests project order limit) (params ∷ stored x ∷ []) ≡ out x)
    → (all xs : List X) → overlay old.now.trees [] tree ≡ map stored all
    → filter (λ x. is_match tests params (stored x)) all ≡ xs
    → IsScanned out tree tests project order limit params xs rows
asks_tree stored out tree {tests} {project}
    {order} {limit} {params} {text} {schema} it old new rows has h showing all xs holds picked =
    let read = reads_as text params old new schema has (Select (program_of
    (scan tree tests project order limit)) it.names) it.is it.plain it.unlisted rows h in
    scanned out tree tests project order limit
    params stored showing (overlay old.now.trees []) all xs rows holds picked (read.answer Null)

-- A query picks rows of a table; `out` is what a row is sorted by and what it shows.
module _ (t : StoreTable) {pick : List (RowOf t) → List (RowOf t)} (out : RowOf t → Output)
    {tests project : List Term} {order : List (Term × Key)} {limit : ℤ} {params : Row} {text : List ℕ}
    (it : IsQuery text (scan (tree_of t) tests project order limit)) (picked : (xs : List (RowOf t))
    → filter (λ x. is_match tests params (stored_row t x)) xs ≡ pick xs)
    (showing : (x : RowOf t) → output (scan (tree_of t) tests project order limit)
    (params ∷ stored_row t x ∷ []) ≡ out x) where
  pub asks : (old new : State) (rows : List Row) (c : Content)
      → HoldsContent old.now c → Shown text params old new rows
      → IsScanned out (tree_of t) tests project order limit params (pick (rows_of c t)) rows
  asks old new rows c h shown =
      asks_tree (stored_row t) out (tree_of t) it old new rows h.schema_is shown showing (rows_of c t)
      (pick (rows_of c t)) (read_from t old.now.trees ∙ h.store.rows.tables t)
      (picked (rows_of c t))

  -- the rows are shown in an order in which they rise
  pub asks_in_order : (ordered : Content → List (RowOf t))
      → ((db : Database) (c : Content) → HoldsContent db c
      → IsPermutation (ordered c) (pick (rows_of c t)) × IsAscending (λ a b. output_cmp
      (scan (tree_of t) tests project order limit) (out a) (out b) ≡ Less) (ordered c))
      → IsAsking text params (λ c rows. rows
      ≡ page (scan (tree_of t) tests project order limit) params (map (λ x. (out x).1) (ordered c)))
  asks_in_order ordered up = record {
    reads = it.reads;
    shows = λ old new rows c h shown.
        let it_rises = up old.now c h in
        in_order out (tree_of t) tests project order limit params (pick (rows_of c t))
        (ordered c) rows it_rises.0 it_rises.1 (asks old new rows c h shown);
  }

  -- rows of which no two are alike are sorted
  pub asks_sorted : (cmp : RowOf t → RowOf t → Ordering) → IsTotalOrder cmp → ((a b : RowOf t)
      → output_cmp (scan (tree_of t) tests project order limit) (out a) (out b) ≡ cmp a b)
      → ((db : Database) (c : Content)
      → HoldsContent db c → IsAscending (λ a b. is_eq (cmp a b) ≡ false) (pick (rows_of c t)))
      → IsAsking text params (λ c rows. rows ≡ page (scan (tree_of t) tests project order limit)
      params (map (λ x. (out x).1) (sort_by cmp (pick (rows_of c t)))))
  asks_sorted cmp total same apart = asks_in_order (λ c. sort_by cmp (pick (rows_of c t))) (λ db c h. (
    IsPermutation-sort_by cmp total (pick (rows_of c t)),
    ascending_weaker (λ a b. cmp a b ≡ Less)
        (λ a b. output_cmp (scan (tree_of t) tests project order limit) (out a) (out b) ≡ Less)
        (λ a b low. same a b ∙ low) _ (rises-sorted cmp total (pick (rows_of c t)) (apart db c h)),
  ))

-- the row that a test selects, where it selects one at most
pub finds : (t : StoreTable) (p : RowOf t → Bool) (show : RowOf t → Row) {tests project : List Term}
    {params : Row} {text : List ℕ} → IsQuery text (scan (tree_of t) tests project [] no_limit)
    → ((x : RowOf t) → is_match tests params (stored_row t x) ≡ p x) → ((x : RowOf t) → output
    (scan (tree_of t) tests project [] no_limit) (params ∷ stored_row t x ∷ []) ≡ ([], show x))
    → ((db : Database) (c : Content) → HoldsContent db c → length (filter p (rows_of c t)) ≤ 1)
    → IsAsking text params (λ c rows. rows ≡ map show (option_to_list (find p (rows_of c t))))
finds t p show {tests} {project} it matching showing few =
    asks_in_order t (λ x. ([], show x))
    it (filter_same _ p matching) showing (λ c. option_to_list (find p (rows_of c t)))
    (λ db c h.
    let xs = filter p (rows_of c t) in
    let Rise : RowOf t → RowOf t → Type 0 = λ a b. output_cmp
    (scan (tree_of t) tests project [] no_limit) ([], show a) ([], show b) ≡ Less in
    subst (λ ys. IsPermutation ys xs × IsAscending Rise ys)
    (alone p (rows_of c t) (few db c h)) (IsPermutation-refl xs, short_rises Rise xs (few db c h)))

-- all rows, in the order of their numbers
pub lists : (t : StoreTable) (show : RowOf t → Row) {project : List Term} {text : List ℕ}
    → IsQuery text (scan (tree_of t)
    [] project ((col 1 0, record { collation = Binary; descending = false }) ∷ []) no_limit)
    → ((x : RowOf t) → output (scan (tree_of t)
    [] project ((col 1 0, record { collation = Binary; descending = false }) ∷ []) no_limit)
    ([] ∷ stored_row t x ∷ []) ≡ (Int (row_number t x) ∷ [], show x))
    → IsAsking text [] (λ c rows. rows ≡ map show (rows_of c t))
lists t show it showing =
    asks_in_order t (λ x. (Int (row_number t x) ∷ [], show x)) it every showing (λ c. rows_of c t)
    (λ db c h. (
      IsPermutation-refl (rows_of c t),
      rises (row_number t) _ (λ a b. refl) (rows_of c t) (h.store.ordered t),
    ))

-- ---- DELETE

abbrev shown_id : (t : StoreTable) → RowOf t → Output
shown_id t x = ([], Int (row_number t x) ∷ [])

ids_found : (t : StoreTable) (tests : List Term) (params : Row) (xs : List (RowOf t)) (rows : List Row)
    → IsScanned (shown_id t) (tree_of t) tests (col 1 0 ∷ []) [] no_limit params xs rows
    → IsPermutation (map (row_number t) xs) (ids_of rows)
ids_found t tests params xs rows s = rw s.shown (simp map-map
    (simp map-map at (IsPermutation-map (λ (o : Output). id_in (rowid o.1)) _ s.ordered s.same)))

module _ (t : StoreTable) (p : RowOf t → Bool) {tests : List Term} {params : Row} {text : List ℕ}
    (it : IsWrite text (Delete (table_index t)
    (program_of (scan (tree_of t) tests (col 1 0 ∷ []) [] no_limit))))
    (matching : (x : RowOf t) → is_match tests params (stored_row t x) ≡ p x) where
  -- the rows that the test selects are gone
  pub cuts : IsWriting text params (Becomes (λ c. with_rows c t (delete_where p (rows_of c t))))
  cuts = record {
    writes = it.writes;
    does = λ old new count ran c h.
        let xs = rows_of c t in
        let base = schema_table t in
        let q = program_of (scan (tree_of t) tests (col 1 0 ∷ []) [] no_limit) in
        let holds = h.store.rows.tables t in
        let w = runs_as text params
        old new store_schema h.schema_is (Delete (table_index t) q) it.is it.plain count ran in
        let done = deleted old.step_limit (mode_of old)
        refl params old.now new.now h.schema_is (table_index t)
        base (place_is t) q (statement_of text (understood store_schema text)) w.tally w.changed in
        let found = scanned (shown_id t) (tree_of t) tests (col 1 0 ∷ []) [] no_limit params
        (stored_row t) (λ x. refl) (overlay old.now.trees []) xs (filter p xs) done.rows (read_from
        t old.now.trees ∙ holds) (filter_same _ p matching xs) (done.found.answer Null) in
        content_then old.now new.now c h t (written old.now new.now (edit_of old.now.trees (uncounted
        base) (ids_of done.rows) Given 0 []) h.schema_is w.sound done.edited) (delete_where p xs)
        (done.edited.applies.rows ∙ ap (λ rows. without_all rows (ids_of done.rows)) holds
        ∙ cut_typed (row_number t) (row_columns t) p (ids_of done.rows) xs (h.store.ordered t)
        (ids_found t tests params (filter p xs) done.rows found))
        (IsKeyedBy-delete_where (row_number t) p xs (h.store.ordered t));
  }

-- every row is gone
pub clears : (t : StoreTable) {text : List ℕ} → IsWrite
    text (Delete (table_index t) (program_of (scan (tree_of t) [] (col 1 0 ∷ []) [] no_limit)))
    → IsWriting text [] (Becomes (λ c. with_rows c t []))
clears t it = writing_as (cuts t (λ _. true) it (λ x. refl))
    (λ old new cut c h. subst (λ xs. HoldsContent new (with_rows c t xs))
    (filter_none (λ _. false) (rows_of c t) (all_of _ (λ _. refl) (rows_of c t))) (cut c h))

-- ---- INSERT

module _ (at : ℕ) (base : Table) (place : slice_get store_schema.tables at ≡ Some (uncounted base))
    (params : Row) (text : List ℕ) where
  pub record IsInserted (old new : State) (rows : List Row) : Type 0 where
    pub edited : IsEdited old.now new.now (edit_of old.now.trees (uncounted base) [] Chosen 0 rows)
    pub written : IsWritten base.tree old.now new.now

  pub inserts_at : (terms : List Term) (width : ℕ) (rows : List Row)
      → IsWrite text (Insert at (Values terms width))
      → value_rows (stamped base params) width (length terms / width) terms ≡ rows
      → (old new : State) (count : ℕ) → old.now.schema ≡ store_schema
      → Executes text params old new (Ok count) → IsInserted old new rows
  inserts_at terms width rows it given old new count has ran =
      let w = runs_as text params old new store_schema has (Insert at (Values terms width)) it.is it.plain count ran in
      let done = inserted old.step_limit (mode_of old) refl params old.now new.now has at base place
      terms width rows (statement_of text (understood store_schema text)) w.tally given w.changed in
      record {
        edited = done;
        written = written
            old.now new.now (edit_of old.now.trees (uncounted base) [] Chosen 0 rows) has w.sound done;
      }

module _ (t : StoreTable) (params : Row) (text : List ℕ) (terms : List Term)
    (width : ℕ) (rows : List Row) (it : IsWrite text (Insert (table_index t) (Values terms width)))
    (given : value_rows (stamped (schema_table t) params) width (length terms / width) terms ≡ rows)
    (old new : State) (count : ℕ) (c : Content) (h : HoldsContent old.now c)
    (ran : Executes text params old new (Ok count)) where
  pub inserts : IsInserted (table_index t) (schema_table t) (place_is t) params text old new rows
  inserts = inserts_at (table_index t)
      (schema_table t) (place_is t) params text terms width rows it given old new count h.schema_is ran

  -- the table has these rows then
  pub leaves : (xs : List (RowOf t))
      → edited old.now.trees (edit_of old.now.trees (uncounted (schema_table t)) [] Chosen 0 rows)
      ≡ map (stored_row t) xs → IsKeyedBy (row_number t) xs
      → HoldsContent new.now (with_rows c t xs)
  leaves xs left up = content_then old.now new.now c h t inserts.written xs (inserts.edited.applies.rows ∙ left) up

-- one row, as its columns leave it
module _ (t : StoreTable) {params : Row} {text : List ℕ}
    {terms : List Term} {width : ℕ} (it : IsWrite text (Insert (table_index t) (Values terms width)))
    (x : RowOf t) {rows : List Row}
    (given : value_rows (stamped (schema_table t) params) width (length terms / width) terms ≡ rows)
    (cast : map (cast_row (uncounted (schema_table t))) rows ≡ stored_row t x ∷ []) where
  -- the row is put in its place by number, where there was none
  pub adds : IsWriting text params (λ old new. (c : Content) → HoldsContent old c
      → HoldsContent new (with_rows c t (insert_by (row_number t) (rows_of c t) x))
      × (has_key (row_number t) (rows_of c t) (row_number t x) ≡ false))
  adds = record {
    writes = it.writes;
    does = λ old new count ran c h. (
      leaves t params text terms width rows it given old new count c h ran _
          (rw (h.store.rows.tables t, cast) (put_typed (row_number t) (row_columns t) x (rows_of c t)))
          (IsKeyedBy-insert_by (row_number t) (rows_of c t) x (h.store.ordered t)),
      was_free (row_number t) (row_columns t) (row_number t x) (rows_of c t)
          (rw (h.store.rows.tables t, cast) at (inserts
          t params text terms width rows it given old new count c h ran).edited.applies.fresh),
    );
  }

  -- a row above the others goes to the end
  pub appends : (number : RowOf t → ℕ) → ((y : RowOf t) → row_number t y ≡ pos (number y))
      → IsWriting text params (λ old new. (c : Content) → HoldsContent old c
      → AllByRecursion (λ y. number y < number x) (rows_of c t)
      → HoldsContent new (with_rows c t (rows_of c t ++ x ∷ [])))
  appends number is = writing_as adds (λ old new added c h low.
      subst (λ xs. HoldsContent new (with_rows c t xs)) (insert_last (row_number t)
      (rows_of c t) x (below (row_number t) number is x (rows_of c t) low)) (added c h).0)
