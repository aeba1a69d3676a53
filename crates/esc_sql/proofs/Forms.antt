-- What a write does to a table of the store, whichever it is, and that it leaves the others.
use Rattle.esc_sql.proofs.Common.{◌≡◌, arith, ℕ, ◌<◌, true, false, List, [], Ok, refl, inl, inr, map}
use Rattle.esc_sql.proofs.Common.{take, length, Option, None, ap, subst, ◌∙◌, ◌⊎◌, Result, Err}
use Rattle.esc_sql.proofs.Common.{slice_get, Some, ◌/◌, ◌==◌, ◌≢◌, AllByRecursion, Insert, Update}
use Rattle.esc_sql.proofs.Common.{Delete}
use Rattle.esc_sql.proofs.Common.{Tally, Does, edit_of, Edit, Database, value_rows, IsDatabase, overlay}
use Rattle.esc_sql.proofs.Common.{Chosen, Given, stamped, Schema, Values, Table, Term, Trees, Mode}
use Rattle.esc_sql.proofs.Common.{IsKeyedBy, ids_of, Command, Program, Row, HoldsContent, rows_of}
use Rattle.esc_sql.proofs.Common.{Content, with_rows, HoldsFirstContent, schema_of, store_schema}
use Rattle.esc_sql.proofs.Common.{first_schema, info_tree, StoreTable, tree_of, stored_row, Listed}
use Rattle.esc_sql.proofs.Common.{Receipts, Held, Steps, Objects, Undo, Parked, Moment, RowOf}
use Rattle.esc_sql.proofs.Common.{schema_table}
use Rattle.esc_sql.proofs.Common.{table_index, row_number}
use Rattle.sqlite_schema.specs.declared.schema.Action.TheVariants.{NoAction}
use Rattle.sqlite_schema.specs.declared.schema.Keys.TheVariants.{Enforced}
use Rattle.sqlite_rules.specs.Action.{works}
use Rattle.sqlite.specs.Edit.{Applies, taken_by}
use Rattle.sqlite.specs.Effect.{Answers}
use Rattle.sqlite.specs.Rows.{Written, Task, Edited, Then, Queried, Gives}
use Rattle.sqlite.specs.Does.{AtPlace, OnRows, Concludes}
use Rattle.sqlite.proofs.Callers.{one_step}
use Rattle.sqlite.proofs.MarkLemmas.{slice_get-take}
use Rattle.sqlite_keyed.proofs.ListLemmas.{all-slice_get}
use Rattle.sqlite_store.proofs.StoreLemmas.{either_same}
use Rattle.std.proofs.lemmas.Bool.{eqb-false}
use Rattle.sqlite_schema.specs.Rules.{passes}
use Rattle.sqlite_schema.specs.declared.schema.Constraint.TheVariants.{Unique}
use Rattle.sqlite_catalog.specs.Listing.{IsSound}
use Rattle.sqlite_trees.specs.Objects.{catalog_tree}
use Rattle.sqlite_catalog.proofs.ReadLemmas.{lists_once}
use Rattle.esc_sql.specs.Content.{AreStoreTrees}
use Rattle.esc_sql.specs.FirstVersion.{AreFirstTrees}

-- two Ok with one value
pub same_value : {B E : Type 0} {a b : B} → ◌≡◌ {A = Result B E} (Ok a) (Ok b) → a ≡ b
same_value e = cc

-- A part that gave a value did not stop on the way. What follows gets its pieces as plain variables,
-- which can be rewritten.
pub through : {A B E P : Type 0} {b : B} {Stops : E → Type 0} {First : A → Type 0} {Next : A → Type 0}
    → ((stop : E) × Stops stop × (Ok b ≡ Err stop)) ⊎ ((a : A) × First a × Next a)
    → ((a : A) → First a → Next a → P) → P
through (inl stopped) on = absurd (let e = stopped.2 in cc)
through (inr h) on = on h.0 h.1 h.2

-- no foreign key of the store acts, so that each write is its one step
idle : (table : Table) (olds news : List Row) → works store_schema Enforced 0 table.tree olds news ≡ []
idle table olds news = rw (← either_same (length news == 0) NoAction) refl

-- the write is the one step of this edit
pub record IsEdited (old new : Database) (edit : Edit) : Type 0 where
  pub same_schema : new.schema ≡ old.schema
  pub applies : Applies store_schema Enforced old.trees edit new.trees

-- a table with no AUTOINCREMENT, so that what asks for one computes
abbrev pub uncounted : Table → Table
uncounted t = record t { is_counted = false }

module _ (limit : Option ℕ) (mode : Mode) (enforced : mode.keys ≡ Enforced)
    (params : Row) (db after : Database) (has : db.schema ≡ store_schema) (at : ℕ) (base : Table)
    (place : slice_get store_schema.tables at ≡ Some (uncounted base)) where
  abbrev table : Table
  table = uncounted base

  abbrev on : Table → Task
  on x = record { limit = limit; keys = mode.keys; schema = db.schema; table = x; params = params }

  -- what a write of this one edit leaves
  ended : (edit : Edit) (next : Trees) (w : Written) (tally : Tally) → Edited db.schema mode.keys
      db.trees edit (Ok next) → w.trees ≡ next → Concludes (on table) mode None w (Ok (tally, after))
      → IsEdited db after edit × (tally.rows ≡ Some (length w.rows))
  ended edit next w tally step left h =
      let one = one_step store_schema Enforced db.trees
      next edit (idle edit.table (taken_by db.trees edit) edit.news) (rw (has, enforced) at step) in
      let trees : next ≡ after.trees = grind (arith, h, left) in (
        record {
          same_schema = grind (arith, h);
          applies = subst (Applies store_schema Enforced db.trees edit) trees one;
        },
        grind (arith, h),
      )

  placed : (command : Command) (tally : Tally)
      → AtPlace (λ x. OnRows (on x) mode None command db.trees) (slice_get db.schema.tables at)
      (Ok (tally, after)) → OnRows (on table) mode None command db.trees (Ok (tally, after))
  placed command tally h = subst (λ t. AtPlace (λ x. OnRows (on x) mode None command db.trees)
      t (Ok (tally, after))) (ap (λ (s : Schema). slice_get s.tables at) has ∙ place) h

  -- ---- INSERT of rows that are given
  pub inserted : (terms : List Term) (width : ℕ) (rows : List Row) (text : List ℕ) (tally : Tally)
      → value_rows (stamped base params) width (length terms / width) terms ≡ rows
      → Does limit mode params db text None (Insert at (Values terms width)) (Ok (tally, after))
      → IsEdited db after (edit_of db.trees table [] Chosen 0 rows)
  inserted terms width rows text tally given h =
      through (placed (Insert at (Values terms width)) tally h) (λ w writes last. through writes (λ found source rest.
      let same : found ≡ rows = source.1 ∙ given in
      through (rw same at rest) (λ counter _ more. through more (λ mid edit counts. through counts (λ next now is.
      (ended _ mid w tally edit (ap (λ (x : Written). x.trees) (same_value is) ∙ same_value now) last).0)))))

  -- ---- DELETE and UPDATE, whose queries find the rowids and, of an UPDATE, the new rows
  module _ (q : Program) where
    pub record IsDone (n : ℕ)
        (news : List Row → List Row) (changed : Edit → List Row) (tally : Tally) : Type 0 where
      pub rows : List Row
      pub found : Answers db q params rows
      pub edited : IsEdited db after (edit_of db.trees table (ids_of rows) Given n (news rows))
      pub counted : tally.rows ≡ Some (length (changed (edit_of db.trees table (ids_of rows) Given n (news rows))))

    done : (n : ℕ) (news : List Row → List Row) (changed : Edit → List Row) (tally : Tally)
        → Then (Then (Queried limit db q params)
        (λ rows. let edit = edit_of db.trees table (ids_of rows) Given n (news rows) in
        Then (Edited db.schema mode.keys db.trees edit)
        (λ next. Gives (record { trees = next; rows = changed edit; last = None }))))
        (Concludes (on table) mode None) (Ok (tally, after))
        → IsDone n news changed tally
    done n news changed tally h =
        through h (λ w writes last. through writes (λ rows found rest. through rest (λ next edit is.
        let all = ended _ next w tally edit (ap (λ (x : Written). x.trees) (same_value is)) last in
        record {
          rows = rows;
          found = found;
          edited = all.0;
          counted = all.1 ∙ ap (λ (x : Written). Some (length x.rows)) (same_value is);
        })))

    pub deleted : (text : List ℕ) (tally : Tally) → Does limit mode params db text None (Delete at q)
        (Ok (tally, after)) → IsDone 0 (λ _. []) (taken_by db.trees) tally
    deleted text tally h = done 0 (λ _. []) (taken_by db.trees) tally (placed (Delete at q) tally h)

    pub updated : (text : List ℕ) (tally : Tally) → Does limit mode params db text None (Update at q)
        (Ok (tally, after)) → IsDone 1 (λ rows. rows) (λ e. e.news) tally
    updated text tally h = done 1 (λ rows. rows) (λ e. e.news) tally (placed (Update at q) tally h)

-- ---- a write to one table leaves the others, so that the store holds the same but for that table

-- each table is at its place in the schema
pub place_is : (t : StoreTable) → slice_get store_schema.tables (table_index t) ≡ Some (uncounted (schema_table t))
place_is Listed = refl
place_is _ = refl

-- no query of one table reads a tree in its place
pub read_from : (t : StoreTable) (trees : Trees) → overlay trees [] (tree_of t) ≡ trees (tree_of t)
read_from Listed trees = refl
read_from _ trees = refl

-- no table of rows is the info table
pub not_info : (t : StoreTable) → info_tree ≢ tree_of t
not_info Listed e = cc
not_info _ e = cc

-- what holds of each table of the schema
pub of_table : (P : Table → Type 0) (t : StoreTable)
    → AllByRecursion P store_schema.tables → P (uncounted (schema_table t))
of_table P t = all-slice_get P store_schema.tables (table_index t) (uncounted (schema_table t)) (place_is t)

-- what holds of each of the first tables
pub of_first : (P : Table → Type 0) (count : ℕ) (t : StoreTable)
    → AllByRecursion P (schema_of count).tables → table_index t < count → P (uncounted (schema_table t))
of_first P count t all low = all-slice_get P (take count store_schema.tables)
    (table_index t) _ (slice_get-take count store_schema.tables (table_index t) low ∙ place_is t) all

-- each row of a table passes the rules of its UNIQUE keys
pub passes_unique : (t : StoreTable) (trees : Trees) → IsSound store_schema trees
    → AllByRecursion (λ row. passes Unique store_schema trees (uncounted (schema_table t)) row ≡ true)
    (trees (tree_of t))
passes_unique t trees sound = of_table (λ s. AllByRecursion
    (λ row. passes Unique store_schema trees s row ≡ true) (trees s.tree)) t (sound.obeys.rules Unique)

-- the schema stays, and each table but this one has the rows that it had
pub record IsWritten (tree : ℕ) (old new : Database) : Type 0 where
  pub same_schema : new.schema ≡ store_schema
  pub others : AllByRecursion (λ t. t.tree ≢ tree → new.trees t.tree ≡ old.trees t.tree) store_schema.tables
  pub sound : IsSound store_schema new.trees

-- an edit of a table is a write of its tree
pub written : (old new : Database) (edit : Edit) → old.schema ≡ store_schema
    → IsDatabase new → IsEdited old new edit → IsWritten edit.table.tree old new
written old new edit has live it =
    let same = it.same_schema ∙ has in
    record { same_schema = same; others = it.applies.tables; sound = subst (λ s. IsSound s new.trees) same live }

-- a write of one tree leaves the rows of other tables
pub other_rows : (tree : ℕ) (old new : Database) → IsWritten tree old new
    → (s : StoreTable) → tree_of s ≢ tree → new.trees (tree_of s) ≡ old.trees (tree_of s)
other_rows tree old new w s = of_table (λ t. t.tree ≢ tree → new.trees t.tree ≡ old.trees t.tree) s w.others

-- what holds of one table with new rows, and of each other table, holds of each after the write
each_with : (P : (s : StoreTable) → List (RowOf s) → Type 0)
    (c : Content) (t : StoreTable) (xs : List (RowOf t)) → P t xs
    → ((s : StoreTable) → tree_of s ≢ tree_of t → P s (rows_of c s))
    → (s : StoreTable) → P s (rows_of (with_rows c t xs) s)
each_with P c Listed xs this others Listed = this
each_with P c Receipts xs this others Receipts = this
each_with P c Held xs this others Held = this
each_with P c Steps xs this others Steps = this
each_with P c Objects xs this others Objects = this
each_with P c Undo xs this others Undo = this
each_with P c Parked xs this others Parked = this
each_with P c Moment xs this others Moment = this
each_with P c t xs this others s = others s (eqb-false (tree_of s) (tree_of t) refl)

-- the content after a write of one table
pub content_then : (old new : Database) (c : Content)
    → HoldsContent old c → (t : StoreTable) → IsWritten (tree_of t) old new
    → (xs : List (RowOf t)) → new.trees (tree_of t) ≡ map (stored_row t) xs
    → IsKeyedBy (row_number t) xs → HoldsContent new (with_rows c t xs)
content_then old new c h t w xs rows up = record {
  schema_is = w.same_schema;
  store = record {
    rows = record {
      info = w.others.0 (not_info t) ∙ h.store.rows.info;
      tables = each_with (λ s ys. new.trees (tree_of s) ≡ map (stored_row s) ys)
          c t xs rows (λ s apart. other_rows (tree_of t) old new w s apart ∙ h.store.rows.tables s);
    };
    ordered = each_with (λ s ys. IsKeyedBy (row_number s) ys) c t xs up (λ s apart. h.store.ordered s);
    sound = w.sound;
  };
}

-- ---- the schema of a database is told by its rows

-- what an open finds in the trees of a store has its schema
pub opens_store : (db : Database) (c : Content) → IsDatabase db → AreStoreTrees db.trees c → HoldsContent db c
opens_store db c live it = record {
  schema_is = lists_once (db.trees catalog_tree)
      db.schema store_schema live.lists it.sound.lists;
  store = it;
}

-- a database whose trees are those of a version 1 has its content
pub opens_first : (db : Database) (c : Content)
    → IsDatabase db → AreFirstTrees db.trees c → HoldsFirstContent db c
opens_first db c live it = record {
  schema_is = lists_once (db.trees catalog_tree)
      db.schema first_schema live.lists it.sound.lists;
  store = it;
}
