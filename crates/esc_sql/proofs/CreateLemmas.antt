-- What a CREATE TABLE does, what the first rows make of empty tables, and what an upgrade does.
use Rattle.esc_sql.proofs.Common.{◌≡◌, lit, ℕ, zero, suc, ◌<◌, ◌+◌, pos, false, List, [], ◌∷◌}
use Rattle.esc_sql.proofs.Common.{Ok, refl, arith, ◌<ℤ◌, map, take, length, get_or, Option, None, sym}
use Rattle.esc_sql.proofs.Common.{ap, subst, ◌∙◌, take_more, AllByRecursion, statement_of, runs_as}
use Rattle.esc_sql.proofs.Common.{created}
use Rattle.esc_sql.proofs.Common.{next_tree, Update, CreateTable, lacks_sequence, Tally, Does, edit_of}
use Rattle.esc_sql.proofs.Common.{edited, Database, understood, overlay, Output, Chosen, Given, State}
use Rattle.esc_sql.proofs.Common.{mode_of, Shown, col, Mode, IsKeyedBy, ids_of, value_cmp-Int, Row}
use Rattle.esc_sql.proofs.Common.{column, Null, Int, PutsListed, HoldsContent, rows_of, Content, Builds}
use Rattle.esc_sql.proofs.Common.{table_at, IsTableAdded, AddsTable, HoldsFirstContent, ListedRow}
use Rattle.esc_sql.proofs.Common.{info_row, listed_number, schema_of, store_schema, info_tree}
use Rattle.esc_sql.proofs.Common.{info_table}
use Rattle.esc_sql.proofs.Common.{ShowsVersion, StoreTable, tree_of, stored_row, row_number, Parked}
use Rattle.esc_sql.proofs.Common.{Moment, table_index, insert_info_text, raise_version_text}
use Rattle.esc_sql.proofs.Common.{select_version_text}
use Rattle.std.proofs.Common.{map-id}
use Rattle.sqlite.specs.Change.{KeepsRows}
use Rattle.sqlite.specs.State.{Writes}
use Rattle.esc_sql.specs.Creation.{fresh_content, MakesEmpty}
use Rattle.esc_sql.specs.Content.{IsInOrder}
use Rattle.esc_sql.specs.StoreTable.{Listed as listed}
use Rattle.esc_sql.proofs.Compiled.{IsWrite, create_is, parted, write_is, select_version_is, program_of}
use Rattle.esc_sql.proofs.Forms.{through, same_value, uncounted, not_info, of_table, other_rows}
use Rattle.esc_sql.proofs.Forms.{updated, of_first, written, IsWritten}
use Rattle.esc_sql.proofs.Scan.{scan, no_limit, in_order, short_rises, scanned}
use Rattle.esc_sql.proofs.Values.{cast_null, cast_int}
use Rattle.esc_sql.proofs.Typed.{every, insert_last}
use Rattle.sqlite_trees.proofs.ListLemmas.{all-get_or}
use Rattle.esc_sql.proofs.Statements.{asks_tree, inserts_at}
use Rattle.esc_sql.proofs.PartLemmas.{IsWriting}
use Rattle.std.proofs.lemmas.List.Sorted.{IsPermutation-refl}
use Rattle.esc_sql.specs.Rows.{first_info_row}
use Rattle.esc_sql.specs.Texts.{table_text}
use Rattle.esc_sql.specs.FirstVersion.{IsToBeRaised, RaisesVersion}
use Rattle.sqlite_keyed.proofs.ListLemmas.{all_both, all-append}

module _ (at : ℕ) (low : at < 9) where
  added : (limit : Option ℕ) (mode : Mode) (db next : Database) (tally : Tally) → db.schema
      ≡ schema_of at → Does limit mode [] db (table_text at) None CreateTable (Ok (tally, next))
      → IsTableAdded at db next
  added limit mode db next tally has h =
      through h (λ one all is. through all (λ first made sequence.
      let it = create_is at low in
      let table_is : made.table ≡ record (table_at at) { tree = 0 } =
      same_value (sym made.defined ∙ ap (λ m. m.0) it) in
      let schema : first.schema ≡ schema_of (at + 1) = made.is ∙ ap (λ s. created s made.table) has
      ∙ ap (created (schema_of at)) table_is ∙ ap (λ m. m.1) it in
      let bare : lacks_sequence first.schema ≡ false = ap lacks_sequence schema ∙ ap (λ m. m.5) it in
      let now : next ≡ first =
      ap (λ (p : Tally × Database). p.1) (same_value is) ∙ same_value (rw bare at sequence) in
      record {
        schema_is = ap (λ (d : Database). d.schema) now ∙ schema;
        empty = subst (λ n. next.trees n ≡ [])
            (ap (λ m. m.7) it) (ap (λ (d : Database). d.trees (next_tree (schema_of at))) now
            ∙ subst (λ s. first.trees (next_tree s) ≡ []) has made.empty);
        others = subst (λ t. KeepsRows (schema_of at).tables db.trees t)
            (sym (ap (λ (d : Database). d.trees) now))
            (subst (λ s. KeepsRows s.tables db.trees first.trees) has made.others);
      }))

  pub adds_table : IsWriting (table_text at) [] (AddsTable at)
  adds_table =
      let it = create_is at low in
      let both = parted (understood (schema_of at) (table_text at)) CreateTable (ap (λ m. m.2) it) in
      record {
        writes = ap (λ m. m.4) it;
        does = λ old new count ran has.
            let w = subst (λ t. Writes old new None CreateTable t [] count) (ap (λ m. m.3) it) (runs_as
            (table_text at) [] old new (schema_of at) has CreateTable both.0 both.1 count ran) in
            added old.step_limit (mode_of old) old.now new.now w.tally has w.changed;
      }

-- among empty tables
pub builds : (at : ℕ) → at < 9
    → (old new : Database) → AddsTable at old new → Builds (schema_of at) (schema_of (at + 1)) old new
builds at low old new adds was =
    let added = adds was.schema_is in
    record {
      schema_is = added.schema_is;
      empty = subst (AllByRecursion (λ t. new.trees t.tree ≡ [])) (sym (ap (λ m. m.6) (create_is at low)))
          (all-append (λ t. new.trees t.tree ≡ []) (schema_of at).tables (table_at at ∷ []) (all_both
          _ (λ t. old.trees t.tree ≡ []) (λ t. new.trees t.tree ≡ []) (λ t same empty. same ∙ empty)
          (schema_of at).tables added.others was.empty) (added.empty, tt));
    }

-- ---- the version

-- the row of `info` is written, and the other tables stay
info_written : (old new : Database) (c : Content)
    → IsWritten info_tree old new → new.trees info_tree ≡ info_row ∷ []
    → ((t : StoreTable) → old.trees (tree_of t) ≡ map (stored_row t) (rows_of c t))
    → IsInOrder c → HoldsContent new c
info_written old new c w info tables ordered = record {
  schema_is = w.same_schema;
  store = record {
    rows = record {
      info = info;
      tables = λ t. other_rows info_tree
          old new w t (λ e. not_info t (sym e)) ∙ tables t;
    };
    ordered = ordered;
    sound = w.sound;
  };
}

nothing : (t : StoreTable) → ([] ≡ map (stored_row t) (rows_of (fresh_content []) t))
    × IsKeyedBy (row_number t) (rows_of (fresh_content []) t)
nothing listed = (refl, tt)
nothing _ = (refl, tt)

-- the first row of the info table makes a store without rows
pub makes_empty : IsWriting insert_info_text [] MakesEmpty
makes_empty = record {
  writes = (write_is {text = insert_info_text} refl).writes;
  does = λ old new count ran built.
      let done = inserts_at 0 info_table refl [] insert_info_text _ 3 (info_row ∷ [])
      (write_is refl) refl old new count built.schema_is ran in
      let left : edited old.now.trees
      (edit_of old.now.trees (uncounted info_table) [] Chosen 0 (info_row ∷ [])) ≡ info_row ∷ [] =
      rw (built.empty.0, cast_null, cast_int (pos 1), cast_int (pos 2)) refl in
      info_written old.now new.now (fresh_content []) done.written (done.edited.applies.rows ∙ left)
      (λ t. of_table (λ s. old.now.trees s.tree ≡ []) t built.empty ∙ (nothing t).0)
      (λ t. (nothing t).1);
}

-- the query of the version shows it
pub shows_version : (old new : State) (rows : List Row)
    → Shown select_version_text [] old new rows → ShowsVersion old.now rows
shows_version old new rows shown known few =
    let out : Row → Output = λ r. ([], column r 2 ∷ []) in
    let all = old.now.trees 0 in
    let s = asks_tree (λ (r : Row). r) out 0 (select_version_is old.now.schema known)
    old new rows refl shown (λ r. refl) all all (sym (map-id all)) (every all) in
    in_order out 0 [] (col 1 2 ∷ []) [] no_limit [] all all rows (IsPermutation-refl all) (short_rises _ all few) s

-- ---- the manifest's rows, one by one

-- the first rows are below the next
before : (rows : List ListedRow) (at : ℕ) (d : ListedRow) → IsKeyedBy listed_number rows → at < length
    rows → AllByRecursion (λ x. listed_number x <ℤ listed_number (get_or rows at d)) (take at rows)
before [] at d up low = absurd (omega arith)
before (r ∷ rows) zero d up low = tt
before (r ∷ rows) (suc at) d up low = (
  all-get_or (λ x. listed_number r <ℤ listed_number x)
      rows at d up.0 (omega arith),
  before rows at d up.1 (omega arith),
)

-- a further row of the manifest is added to those before it
pub adds_next : (rows : List ListedRow) (at : ℕ) (d : ListedRow) (old new : Database)
    → at < length rows → IsKeyedBy listed_number rows → HoldsContent old (fresh_content (take at rows))
    → PutsListed (get_or rows at d) old new → HoldsContent new (fresh_content (take (at + 1) rows))
adds_next rows at d old new low up holds adds =
    let last = insert_last listed_number (take at rows) (get_or rows at d) (before rows at d up low) in
    subst (λ l. HoldsContent new (fresh_content l))
    (last ∙ sym (take_more rows at d low)) (adds (fresh_content (take at rows)) holds)

-- ---- the version of a store is raised

-- the text that raises the version does so
pub raises : IsWriting raise_version_text [] RaisesVersion
raises = record {
  writes = (write_is {text = raise_version_text} refl).writes;
  does = λ old new count ran c h.
      let q = program_of
      (scan info_tree [] (col 1 0 ∷ col 1 0 ∷ lit Null ∷ lit (Int (pos 2)) ∷ []) [] no_limit) in
      let out : Row → Output = λ r. ([], Int (pos 1) ∷ info_row) in
      let one = first_info_row ∷ [] in
      let it : IsWrite raise_version_text (Update 0 q) = write_is refl in
      let w = runs_as raise_version_text [] old new store_schema h.schema_is (Update 0 q) it.is it.plain count ran in
      let done = updated old.step_limit (mode_of old) refl [] old.now new.now h.schema_is 0 info_table
      refl q (statement_of raise_version_text (understood store_schema raise_version_text))
      w.tally w.changed in
      let s = scanned out info_tree [] _ [] no_limit [] (λ (_ : Row). first_info_row) (λ _. refl)
      (overlay old.now.trees []) one one done.rows h.info refl (done.found.answer Null) in
      let rows : done.rows ≡ (Int (pos 1) ∷ info_row) ∷ [] = in_order
      out info_tree [] _ [] no_limit [] one one done.rows (IsPermutation-refl one) (tt, tt) s in
      let left : edited old.now.trees (edit_of old.now.trees (uncounted info_table)
      (ids_of done.rows) Given 1 done.rows) ≡ info_row ∷ [] =
      rw (rows, h.info, cast_null, cast_int (pos 1), cast_int (pos 2), value_cmp-Int (pos 1) (pos 1)) refl in
      info_written old.now new.now c (written old.now new.now _ h.schema_is w.sound done.edited)
      (done.edited.applies.rows ∙ left) h.tables h.ordered;
}

-- ---- the two new tables

-- with both, the store is to be raised
abbrev pub AddsBoth : Database → Database → Type 0
AddsBoth old new = (c : Content) → HoldsFirstContent old c → IsToBeRaised new c

-- each older table keeps its rows
stay : (at : ℕ) (old new : Database) → IsTableAdded at old new → (t : StoreTable) → table_index t < at
    → new.trees (tree_of t) ≡ old.trees (tree_of t)
stay at old new added t = of_first (λ s. new.trees s.tree ≡ old.trees s.tree) at t added.others

-- two tables that are added one after the other
pub adds_both : (a b d : Database) → AddsTable 7 a b → AddsTable 8 b d → AddsBoth a d
adds_both a b d parked moment c h = record {
  schema_is = last.schema_is;
  info = last.others.0 ∙ (first.others.0 ∙ h.store.rows.info);
  tables = tables;
  ordered = h.store.ordered;
}
  where
    first : IsTableAdded 7 a b
    first = parked h.schema_is

    last : IsTableAdded 8 b d
    last = moment first.schema_is

    tables : (t : StoreTable) → d.trees (tree_of t) ≡ map (stored_row t) (rows_of c t)
    tables Parked =
        stay 8 b d last Parked (omega arith)
        ∙ (first.empty ∙ ap (map (stored_row Parked)) (sym h.store.rows.parked))
    tables Moment = last.empty ∙ ap (map (stored_row Moment)) (sym h.store.rows.moment)
    tables t = stay 8 b d last t (omega arith)
        ∙ (stay 7 a b first t (omega arith) ∙ h.store.rows.tables t (omega arith))
