-- What the statements on before-images do.
use Rattle.esc_sql.proofs.Common.{◌≡◌, ℕ, pos, true, false, List, [], ◌∷◌, ◌++◌, refl, arith}
use Rattle.esc_sql.proofs.Common.{filter, map, length, Option, ap, ◌∙◌, Bool, ◌&&◌, is_eq, ◌/◌}
use Rattle.esc_sql.proofs.Common.{◌==◌, bytes_eq, and_parts, IsTotalOrder, AllByRecursion, flat_map}
use Rattle.esc_sql.proofs.Common.{Insert}
use Rattle.esc_sql.proofs.Common.{Database, value_rows, stamped, Values, Term, IsAscending, filter_same}
use Rattle.esc_sql.proofs.Common.{ascending_weaker, ascending-filter, sort_by, delete_where, Row, Null}
use Rattle.esc_sql.proofs.Common.{Int, Blob, Becomes, by_image, image_entry, HoldsContent}
use Rattle.esc_sql.proofs.Common.{Content, shown_image_entry, blob_or_null, stored_row, Undo}
use Rattle.esc_sql.proofs.Common.{insert_undo_text, insert_images_text, select_undo_text}
use Rattle.esc_sql.proofs.Common.{delete_undo_text, clear_undo_text, ROWS_AT_ONCE, first_key}
use Rattle.esc_sql.proofs.Common.{nat_eq_equiv, schema_table}
use Rattle.esc_sql.proofs.Common.{nat_list_eq_equiv}
use Rattle.esc_sql.specs.Rows.{UndoRow}
use Rattle.esc_sql.specs.Content.{is_image_at}
use Rattle.esc_sql.specs.Changes.{PutsImage, PutsImages, RemovesImages, without_undo, ImageEntry}
use Rattle.esc_sql.specs.Changes.{is_image_entry_at, image_entry_at, ListsImages}
use Rattle.esc_sql.specs.StatementSteps.{shown_image, ShowsImages}
use Rattle.esc_sql.proofs.Compiled.{IsWrite, new_image_terms, undo_tests, write_is, query_is}
use Rattle.esc_sql.proofs.ManyRows.{column_behind, rows_given, gains}
use Rattle.esc_sql.proofs.Scan.{is_match, same_number, same_blob, and_true, same_number_of}
use Rattle.esc_sql.proofs.Values.{cast_null, cast_int, cast_blob}
use Rattle.esc_sql.proofs.Finds.{found-delete, IsKey, unique_key, few, both_eq, both_equiv, found-and}
use Rattle.esc_sql.proofs.Sorts.{key_eq, both_total, both_values, all_passed}
use Rattle.esc_sql.proofs.Statements.{cuts, clears, asks_sorted}
use Rattle.esc_sql.proofs.PartLemmas.{IsAsking, IsWriting, writing_as}
use Rattle.sqlite_keyed.proofs.ListLemmas.{all_both}
use Rattle.esc_sql.proofs.ObjectLists.{sorted_found}

image_keys : IsKey Undo (λ u. (u.pos, (u.kind, u.key))) (both_eq ◌==◌ (both_eq ◌==◌ bytes_eq))
unfolding first_key
image_keys =
    unique_key Undo (1 ∷ 2 ∷ 3 ∷ []) _ _ (both_equiv nat_eq_equiv (both_equiv nat_eq_equiv nat_list_eq_equiv))
    (λ a b. rw (
      same_number a.pos b.pos,
      same_number a.kind b.kind,
      same_blob a.key b.key,
      and_true (bytes_eq a.key b.key),
    ) refl) (λ trees row h. (and_parts _ true h).0)

-- ---- insert

module _ (at : ℕ) where
  abbrev columns : ImageEntry → Row
  columns e = Int (pos at) ∷ shown_image_entry e

  adds_images : (es : List ImageEntry) {params : Row} {text : List ℕ} {terms : List Term}
      → IsWrite text (Insert 6 (Values terms 5))
      → value_rows (stamped (schema_table Undo) params) 5 (length terms / 5) terms
      ≡ map (λ e. Null ∷ columns e) es → IsWriting text params (PutsImages at es)
  adds_images es it given =
      writing_as (gains Undo {K = ℕ × (ℕ × List ℕ)} (λ id e. record {
        id = id;
        pos = at;
        kind = e.kind;
        key = e.key;
        bytes = e.bytes;
      }) (λ u. u.id) (λ u. refl) (λ n e. refl) columns (λ n e. refl)
      (λ e. rw (cast_null, cast_int (pos at), cast_int (pos e.kind), cast_blob e.bytes) refl)
      (λ u. u.bytes) (λ e. e.bytes) (λ n e. refl)
      (λ k. is_image_at k.0 k.1.0 k.1.1) (λ k e. (at == k.0) && is_image_entry_at k.1.0 k.1.1 e)
      (λ k n e. refl) (few image_keys (λ _. true)) es it given) (λ old new did c h.
      let put = did c h in (
        put.0,
        put.1,
        record {
          fresh = λ k q. rw (nat_eq_equiv.refl at) at (put.2 (at, (k, q))).0;
          same = λ p k q. grind (
            arith,
            (put.2 (p, (k, q))).1,
            found-and (λ e. e.bytes)
                (λ _. at == p) (is_image_entry_at k q) (at == p) (λ e is. refl) es,
          );
        },
      ))

  pub puts_images : (es : List ImageEntry) → length es ≡ ROWS_AT_ONCE
      → IsWriting insert_images_text (Int (pos at) ∷ flat_map shown_image_entry es) (PutsImages at es)
  puts_images es long =
      adds_images es (write_is refl) (rows_given new_image_terms
      5 3 (Int (pos at) ∷ []) shown_image_entry (λ e. Null ∷ columns e) (λ at. refl) (λ e. refl)
      (λ before after e. let behind = column_behind before (shown_image_entry e ++ after) in
      rw (behind 0, behind 1, behind 2) refl) ROWS_AT_ONCE es long)

-- the INSERT of a before-image puts it
pub puts_image : (at kind : ℕ) (key : List ℕ) (before : Option (List ℕ)) → IsWriting insert_undo_text
    (Int (pos at) ∷ Int (pos kind) ∷ Blob key ∷ blob_or_null before ∷ []) (PutsImage at kind key before)
puts_image at kind key before =
    let e : ImageEntry = record { kind = kind; key = key; bytes = before } in
    writing_as (adds_images at (e ∷ []) (write_is refl) refl) (λ old new did c h.
    let put = did c h in (
      put.0,
      put.1,
      put.2.fresh kind key (grind (arith, image_keys.laws.refl (at, (kind, key)))),
      λ p k q. grind (arith, put.2.same p k q),
    ))

-- ---- delete

-- whether a before-image is of a step
abbrev pub of_step : ℕ → UndoRow → Bool
of_step at u = u.pos == at

at_step : (at : ℕ) (u : UndoRow) → is_match undo_tests (Int (pos at) ∷ []) (stored_row Undo u) ≡ of_step at u
at_step at u = and_true _ ∙ same_number_of u.pos at

-- the DELETE of a step's before-images removes them
pub removes_images : (at : ℕ) → IsWriting delete_undo_text (Int (pos at) ∷ []) (RemovesImages at)
removes_images at =
    writing_as (cuts Undo (of_step at) (write_is refl) (at_step at)) (λ old new cut c h. (
      delete_where (of_step at) c.undo,
      cut c h,
      λ p k q. found-delete (λ u. u.bytes)
          (of_step at) (is_image_at p k q) (at == p) (λ u is. grind (arith, is)) c.undo,
    ))

-- the DELETE of all before-images leaves none
pub clears_undo : IsWriting clear_undo_text [] (Becomes without_undo)
clears_undo = clears Undo (write_is refl)

-- ---- select

-- the relation of rows that pass
among : {X : Type 0} (p : X → Bool) (R : X → X → Type 0) (xs : List X) → AllByRecursion
    (λ x. p x ≡ true) xs → IsAscending (λ a b. p a ≡ true → p b ≡ true → R a b) xs → IsAscending R xs
among p R [] all up = tt
among p R (x ∷ xs) all up =
    (all_both (λ y. p y ≡ true) _ (R x) (λ y is h. h all.0 is) xs all.1 up.0, among p R xs all.1 up.1)

-- the before-images of one step are at different keys
step_apart : (at : ℕ) (db : Database) (c : Content)
    → HoldsContent db c → IsAscending (λ a b. is_eq (by_image a b) ≡ false) (filter (of_step at) c.undo)
step_apart at db c h =
    let Apart : UndoRow → UndoRow
    → Type 0 = λ a b. of_step at a ≡ true → of_step at b ≡ true → is_eq (by_image a b) ≡ false in
    among (of_step at) _ _ (all_passed (of_step at) c.undo) (ascending-filter Apart (of_step at) c.undo
    (ascending_weaker _ Apart (λ a b apart x y. grind
    (arith, key_eq a.kind a.key b.kind b.key, apart, x, y)) c.undo (image_keys.apart db c h)))

image_total : IsTotalOrder by_image
image_total = both_total (λ (u : UndoRow). u.kind) (λ (u : UndoRow). u.key)

-- the query of a step's before-images shows them
pub shows_images : (at : ℕ) → IsAsking select_undo_text (Int (pos at) ∷ []) (ShowsImages at)
shows_images at =
    asks_sorted Undo (λ u. (Int (pos u.kind) ∷ Blob u.key ∷ [], shown_image u))
    (query_is refl) (filter_same _ (of_step at) (at_step at)) (λ u. refl) by_image image_total
    (λ a b. both_values (λ (u : UndoRow). u.kind) (λ (u : UndoRow). u.key) a b) (step_apart at)

-- the images that are shown are those of the step, by key
pub lists_images : (db : Database) (at : ℕ) (c : Content) (found : List ImageEntry) → HoldsContent db c
    → found ≡ map image_entry (sort_by by_image (filter (of_step at) c.undo)) → ListsImages at c found
lists_images db at c found h is = record {
  sorted = is;
  same = λ k q. ap (image_entry_at k q) is
      ∙ sorted_found (λ (e : ImageEntry). e.bytes) (is_image_entry_at k q) image_entry
      by_image image_total (of_step at) c.undo (few image_keys (λ _. true) (at, (k, q)) db c h);
}
