-- What the statements on objects do.
use Rattle.esc_sql.proofs.Common.{◌≡◌, ℕ, pos, true, List, [], ◌∷◌, ◌++◌, Ok, refl, filter, map}
use Rattle.esc_sql.proofs.Common.{length, Option, None, sym, ap, subst, ◌∙◌, Result, Bool, Some, find}
use Rattle.esc_sql.proofs.Common.{◌/◌, ◌==◌, ◌≢◌, IfOk, bytes_eq, and_parts, eqb-true}
use Rattle.esc_sql.proofs.Common.{nat_list_eq_equiv}
use Rattle.esc_sql.proofs.Common.{bytes_eq-Decides, flat_map, option_to_list, statement_of, runs_as}
use Rattle.esc_sql.proofs.Common.{Insert, Update, edit_of, edited, Database, value_rows, state}
use Rattle.esc_sql.proofs.Common.{understood, overlay, Output, Given, stamped, Values, State, mode_of}
use Rattle.esc_sql.proofs.Common.{Executes, Ghosts, Term, Trees, Error, filter_same, IsKeyedBy}
use Rattle.esc_sql.proofs.Common.{update_where, delete_where, ids_of, Row, Null, Int, Blob, Becomes}
use Rattle.esc_sql.proofs.Common.{PutsObjects, ObjectEntry, is_entry_at, HoldsContent, Content}
use Rattle.esc_sql.proofs.Common.{object_at}
use Rattle.esc_sql.proofs.Common.{is_object_at, is_same_key, shown_entry, IsPart, ObjectRow}
use Rattle.esc_sql.proofs.Common.{store_schema, object_tree, CountsObject, stored_row, Objects}
use Rattle.esc_sql.proofs.Common.{insert_object_text, insert_objects_text, update_object_text}
use Rattle.esc_sql.proofs.Common.{delete_object_text}
use Rattle.esc_sql.proofs.Common.{clear_objects_text, find_object_text, ROWS_AT_ONCE, fold, insert_by}
use Rattle.esc_sql.proofs.Common.{false, first_key, IsPermutation-refl, nat_eq_equiv, arith}
use Rattle.esc_sql.proofs.Common.{schema_table, row_number, row_columns}
use Rattle.std.specs.Prelude.{unwrap_or}
use Rattle.std.proofs.lemmas.List.{nil_from_length}
use Rattle.sqlite.specs.Held.{Held}
use Rattle.esc_sql.specs.StatementSteps.{with_bytes, UpdatesObject, shown_bytes, ShowsObject}
use Rattle.esc_sql.specs.Changes.{AddsObject, PutsObject, RemovesObject, without_objects}
use Rattle.esc_sql.proofs.Compiled.{object_tests, object_sets, program_of, IsWrite, new_object_terms}
use Rattle.esc_sql.proofs.Compiled.{write_is, query_is}
use Rattle.esc_sql.proofs.ManyRows.{column_behind, rows_given, gains}
use Rattle.esc_sql.proofs.PartLemmas.{Counted, count_part, IsAsking, IsWriting, writing_as}
use Rattle.esc_sql.proofs.Forms.{uncounted, updated, written, content_then}
use Rattle.esc_sql.proofs.Typed.{set_typed}
use Rattle.esc_sql.proofs.Values.{cast_null, cast_int, rowid_int}
use Rattle.esc_sql.proofs.Scan.{scan, no_limit, is_match, scanned, in_order, short_rises, same_number}
use Rattle.esc_sql.proofs.Scan.{same_blob, and_true, same_number_of}
use Rattle.esc_sql.proofs.Finds.{alone, found-delete, IsKey, unique_key, few, key_test, both_eq, both_equiv}
use Rattle.esc_sql.proofs.Statements.{finds, cuts, clears}
use Rattle.sqlite_keyed.proofs.KeyedLemmas.{IsKeyedBy-update_where}
use Rattle.sqlite_keyed.proofs.WriteLemmas.{puts_update}

-- keys that are found alike are alike
pub keys_are : (k : ℕ) (q : List ℕ) (kind : ℕ) (key : List ℕ)
    → is_same_key k q kind key ≡ true → (k ≡ kind) × (q ≡ key)
keys_are k q kind key h = let both = and_parts (k == kind) (bytes_eq q key) h in
    (eqb-true k kind both.0, (bytes_eq-Decides q key).0 both.1)

-- kind and text are a key of objects
pub object_keys : IsKey Objects (λ o. (o.kind, o.key)) (both_eq ◌==◌ bytes_eq)
unfolding first_key
object_keys =
    unique_key Objects (1 ∷ 2 ∷ []) _ _ (both_equiv nat_eq_equiv nat_list_eq_equiv)
    (λ a b. rw (same_number a.kind b.kind, same_blob a.key b.key, and_true (bytes_eq a.key b.key)) refl)
    (λ trees row h. (and_parts _ true h).0)

-- the parameters that write an object
abbrev pub object_params : ℕ → List ℕ → List ℕ → Row
object_params kind key bytes = Int (pos kind) ∷ Blob key ∷ Blob bytes ∷ []

at_key : (kind : ℕ) (key : List ℕ) (more : Row) (o : ObjectRow) → is_match
    object_tests (Int (pos kind) ∷ Blob key ∷ more) (stored_row Objects o) ≡ is_object_at kind key o
at_key kind key more o = rw (same_number_of o.kind kind, same_blob o.key key, and_true (bytes_eq o.key key)) refl

-- ---- find

-- the query of one object shows it
pub finds_object : (kind : ℕ) (key : List ℕ)
    → IsAsking find_object_text (Int (pos kind) ∷ Blob key ∷ []) (ShowsObject kind key)
finds_object kind key = finds Objects (is_object_at kind key) shown_bytes (query_is refl)
    (at_key kind key []) (λ o. refl) (few object_keys (λ _. true) (kind, key))

-- ---- insert

adds_objects : (es : List ObjectEntry) {params : Row} {text : List ℕ} {terms : List Term}
    → IsWrite text (Insert 5 (Values terms 4))
    → value_rows (stamped (schema_table Objects) params) 4 (length terms / 4) terms
    ≡ map (λ e. Null ∷ shown_entry e) es → IsWriting text params (PutsObjects es)
adds_objects es it given =
    writing_as (gains Objects {K = ℕ × List ℕ} (λ id e. record {
      id = id;
      kind = e.kind;
      key = e.key;
      bytes = e.bytes;
    }) (λ o. o.id) (λ o. refl) (λ n e. refl) shown_entry (λ n e. refl)
    (λ e. rw (cast_null, cast_int (pos e.kind)) refl) (λ o. o.bytes) (λ e. e.bytes) (λ n e. refl)
    (λ k. is_object_at k.0 k.1)
    (λ k. is_entry_at k.0 k.1) (λ k n e. refl) (few object_keys (λ _. true)) es it given)
    (λ old new put c h. let it = put c h in
    (it.0, it.1, record { fresh = λ k q. (it.2 (k, q)).0; same = λ k q. (it.2 (k, q)).1 }))

-- the INSERT of one object adds it
pub adds_object : (kind : ℕ) (key bytes : List ℕ)
    → IsWriting insert_object_text (object_params kind key bytes) (AddsObject kind key bytes)
adds_object kind key bytes =
    writing_as (adds_objects (record { kind = kind; key = key; bytes = bytes } ∷ [])
    (write_is refl) refl) (λ old new put c h.
    let it = put c h in (
      it.0,
      it.1,
      it.2.fresh kind key (rw (object_keys.laws.refl (kind, key)) refl),
      λ k q. grind (arith, it.2.same k q),
    ))

-- the INSERT of many objects puts them
pub inserts_objects : (es : List ObjectEntry) → length es ≡ ROWS_AT_ONCE
    → IsWriting insert_objects_text (flat_map shown_entry es) (PutsObjects es)
inserts_objects es long =
    adds_objects es (write_is refl) (rows_given
    new_object_terms 4 3 [] shown_entry (λ e. Null ∷ shown_entry e) (λ at. refl) (λ e. refl)
    (λ before after e. let behind = column_behind before (shown_entry e ++ after) in
    rw (behind 0, behind 1, behind 2) refl) ROWS_AT_ONCE es long)

-- ---- update

-- the old rowid, and the new row
abbrev shown_new : List ℕ → ObjectRow → Row
shown_new bytes o = Int (pos o.id) ∷ Int (pos o.id) ∷ Int (pos o.kind) ∷ Blob o.key ∷ Blob bytes ∷ []

module _ (kind : ℕ) (key bytes : List ℕ) where
  abbrev here : ObjectRow → Bool
  here = is_object_at kind key

  set_rows : (os : List ObjectRow) (found : List ObjectRow) → filter here os ≡ found
      → IsKeyedBy (row_number Objects) os → fold (insert_by (row_number Objects))
      os (map (with_bytes bytes) found) ≡ update_where here (with_bytes bytes) os
  set_rows os found is up = rw is at (puts_update (row_number Objects) here (with_bytes bytes) (λ o. refl) os up)

  -- what the edit leaves, and how many rows it puts
  leaves_one : (db : Trees) (os : List ObjectRow) (o : Option ObjectRow) (rows : List Row)
      → db object_tree ≡ map (stored_row Objects) os → IsKeyedBy (row_number Objects) os
      → filter here os ≡ option_to_list o → rows ≡ map (shown_new bytes) (option_to_list o)
      → let edit = edit_of db (uncounted (schema_table Objects)) (ids_of rows) Given 1 rows in
      (edited db edit ≡ map (stored_row Objects) (update_where here (with_bytes bytes) os))
      × (length edit.news ≡ length (option_to_list o))
  leaves_one db os None rows holds up one is =
      rw (is, holds) (ap (map (stored_row Objects)) (set_rows os [] one up), refl)
  leaves_one db os (Some o) rows holds up one is =
      rw (is, cast_int (pos o.kind), rowid_int (pos o.id), holds) (
        set_typed (row_number Objects)
            (row_columns Objects) here (with_bytes bytes) os o (λ y. refl) up one,
        refl,
      )

  updates : (old new : State) (count : ℕ) → Executes update_object_text (object_params kind key bytes)
      old new (Ok count) → (c : Content) → HoldsContent old.now c
      → HoldsContent new.now (record c { objects = update_where here (with_bytes bytes) c.objects })
      × (count ≡ length (filter here c.objects))
  updates old new count ran c h =
      let params = object_params kind key bytes in
      let out : ObjectRow → Output = λ o. ([], shown_new bytes o) in
      let q = program_of (scan object_tree object_tests object_sets [] no_limit) in
      let short = few object_keys (λ _. true) (kind, key) old.now c h in
      let one = alone here c.objects short in
      let w = runs_as update_object_text params old new store_schema h.schema_is (Update 5 q)
      (write_is {text = update_object_text} refl).is
      (write_is {text = update_object_text} refl).plain count ran in
      let done = updated old.step_limit (mode_of old)
      refl params old.now new.now h.schema_is 5 (schema_table Objects) refl q (statement_of
      update_object_text (understood store_schema update_object_text)) w.tally w.changed in
      let s =
      scanned out object_tree object_tests object_sets [] no_limit params (stored_row Objects)
      (λ o. refl) (overlay old.now.trees []) c.objects (filter here c.objects) done.rows
      (h.store.rows.tables Objects)
      (filter_same _ here (at_key kind key (Blob bytes ∷ [])) c.objects) (done.found.answer Null) in
      let rows =
      in_order out object_tree object_tests object_sets [] no_limit params (filter here c.objects)
      (filter here c.objects) done.rows (IsPermutation-refl (filter here c.objects))
      (short_rises _ (filter here c.objects) short) s ∙ ap (map (shown_new bytes)) one in
      let it = leaves_one old.now.trees c.objects (find here c.objects)
      done.rows (h.store.rows.tables Objects) (h.store.ordered Objects) one rows in (
        content_then old.now new.now
            c h Objects (written old.now new.now _ h.schema_is w.sound done.edited)
            (update_where here (with_bytes bytes) c.objects) (done.edited.applies.rows ∙ it.0)
            (IsKeyedBy-update_where (row_number Objects) here (with_bytes bytes)
            (λ x. refl) c.objects (h.store.ordered Objects)),
        w.counted ∙ ap (λ n. unwrap_or n 0) done.counted ∙ it.1 ∙ ap length (sym one),
      )

  -- the update, with the number of the objects that it changed
  pub update_part : {S : Type 0} (g : Ghosts S) {given : Row} {old new : Held S} {result : Result ℕ
      Error} → Counted g update_object_text given old new result → given ≡ object_params kind key bytes
      → IsPart (state g old) (state g new) (λ p q. UpdatesObject kind key bytes p q
      × IfOk result (λ n. CountsObject kind key n p)) result
  update_part g {given} {old} {new} {result} counted same =
      count_part g update_object_text given old new _ (write_is {text = update_object_text} refl).writes counted
      (λ count is ran.
      let did = updates (state g old) (state g new) count (subst
      (λ r. Executes update_object_text r (state g old) (state g new) (Ok count)) same ran) in
      (λ c h. (did c h).0, rw is (λ c h. (did c h).1)))

  -- ---- both are a put

  is_set : (os : List ObjectRow) → length (filter here os) ≢ 0
      → object_at kind key (update_where here (with_bytes bytes) os) ≡ Some bytes
  is_set [] some = absurd (some refl)
  is_set (o ∷ os) some = grind (arith, some, is_set os)

  stays_at : (k : ℕ) (q : List ℕ) (os : List ObjectRow) → is_same_key kind key k q ≡ false
      → object_at k q (update_where here (with_bytes bytes) os) ≡ object_at k q os
  stays_at k q [] apart = refl
  stays_at k q (o ∷ os) apart =
      grind (arith, key_test object_keys (kind, key) (k, q) (o.kind, o.key), apart, stays_at k q os)

  pub puts_set : (count : ℕ) (old new : Database) → UpdatesObject kind key bytes old new
      → CountsObject kind key count old → count ≢ 0 → PutsObject kind key bytes old new
  puts_set count old new updated counted some c h = (
    update_where here (with_bytes bytes) c.objects,
    updated c h,
    λ k q. grind (
      arith,
      keys_are kind key k q,
      is_set c.objects (λ none. some (counted c h ∙ none)),
      stays_at k q c.objects,
    ),
  )

  pub puts_new : (count : ℕ) (old mid new : Database)
      → UpdatesObject kind key bytes old mid → CountsObject kind key count old
      → count ≡ 0 → AddsObject kind key bytes mid new → PutsObject kind key bytes old new
  puts_new count old mid new updated counted is inserted c h =
      let same = set_rows c.objects [] (nil_from_length _ (sym (counted c h) ∙ is)) (h.store.ordered Objects) in
      let put = inserted c (subst (λ os. HoldsContent mid (record c { objects = os })) (sym same) (updated c h)) in
      (put.0, put.1, put.3)

-- ---- delete

-- the DELETE of one object removes it
pub removes_object : (kind : ℕ) (key : List ℕ)
    → IsWriting delete_object_text (Int (pos kind) ∷ Blob key ∷ []) (RemovesObject kind key)
removes_object kind key =
    writing_as (cuts Objects (is_object_at kind key) (write_is refl) (at_key kind key [])) (λ old new cut c h. (
      delete_where (is_object_at kind key) c.objects,
      cut c h,
      λ k q. found-delete (λ o. o.bytes) (is_object_at kind key) (is_object_at k q) (is_same_key
          kind key k q) (λ o. key_test object_keys (kind, key) (k, q) (o.kind, o.key)) c.objects,
    ))

-- the DELETE of all objects leaves none
pub clears_objects : IsWriting clear_objects_text [] (Becomes without_objects)
clears_objects = clears Objects (write_is refl)
