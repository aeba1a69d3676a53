-- Rows that one statement adds: what its parameters give, how SQLite numbers them, and what is found after.
use Rattle.esc_sql.proofs.Common.{◌≡◌, ℕ, suc, ◌+◌, pos, true, List, [], ◌∷◌, ◌++◌, refl, arith}
use Rattle.esc_sql.proofs.Common.{inl, inr, filter, ◌≤◌, map, take, length, Option, None, sym, ap}
use Rattle.esc_sql.proofs.Common.{subst, ◌∙◌, ap₂, ℤ, Bool, slice_get, option_map, find, ◌/◌}
use Rattle.esc_sql.proofs.Common.{◌+ℤ◌}
use Rattle.esc_sql.proofs.Common.{fold, is_some, cases_Bool, flat_map, option_or, Insert, Database}
use Rattle.esc_sql.proofs.Common.{value_rows, Chosen, stamped, Values, Term, eval_all, put_row}
use Rattle.esc_sql.proofs.Common.{IsKeyedBy-insert_by, slice_get-filter, map-map, map_same, IsKeyedBy}
use Rattle.esc_sql.proofs.Common.{cast_row, Row, column, Null, Int, HoldsContent, rows_of, Content}
use Rattle.esc_sql.proofs.Common.{with_rows, StoreTable, Listed, RowOf, schema_table, table_index}
use Rattle.esc_sql.proofs.Common.{row_number, row_columns}
use Rattle.std.proofs.Common.{drop}
use Rattle.std.proofs.lemmas.List.{append-nil, append_assoc, length-append}
use Rattle.std.proofs.lemmas.List.Folds.{find-append}
use Rattle.std.proofs.lemmas.List.Elements.{filter-append}
use Rattle.std.proofs.Math.Seq.{take-append_seam, drop-append_seam}
use Rattle.sqlite.specs.Edit.{numbered, next_rowid, put_all}
use Rattle.sqlite_keyed.specs.Keyed.{next_key}
use Rattle.sqlite_keyed.proofs.SliceLemmas.{insert_next}
use Rattle.esc_sql.proofs.Compiled.{IsWrite, rows_terms}
use Rattle.esc_sql.proofs.Forms.{uncounted}
use Rattle.esc_sql.proofs.Statements.{leaves}
use Rattle.esc_sql.proofs.Typed.{stored, put_typed, next_typed}
use Rattle.esc_sql.proofs.PartLemmas.{IsWriting}

-- the parameters of a row come after those of the rows before it
pub column_behind : (before row : Row) (at : ℕ) → column (before ++ row) (length before + at) ≡ column row at
column_behind [] row at = let none : 0 + at ≡ at = omega arith in ap (column row) none
column_behind (v ∷ before) row at = let more : suc (length before) + at ≡ suc (length before + at) =
    omega arith in ap (column (v ∷ (before ++ row))) more ∙ column_behind before row at

module _ {E : Type 0} (one : ℕ → List Term) (width step : ℕ) (head : Row) (shown given : E → Row)
    (wide : (at : ℕ) → length (one at) ≡ width) (long : (e : E) → length (shown e) ≡ step)
    (is : (before after : Row) (e : E) → eval_all (one (length before))
    ((head ++ (before ++ (shown e ++ after))) ∷ []) ≡ given e) where
  given_from : (before : Row) (es : List E) → value_rows (head ++ (before ++ flat_map shown es))
      width (length es) (rows_terms one step (length es) (length before)) ≡ map given es
  given_from before [] = refl
  given_from before (e ∷ es) =
      let at = length before in
      let more = rows_terms one step (length es) (at + step) in
      let first : take width (one at ++ more) ≡ one at =
      subst (λ n. take n (one at ++ more) ≡ one at) (wide at) (take-append_seam (one at) more) in
      let others : drop width (one at ++ more) ≡ more =
      subst (λ n. drop n (one at ++ more) ≡ more) (wide at) (drop-append_seam (one at) more) in
      let next : at + step ≡ length (before ++ shown e) =
      sym (length-append before (shown e) ∙ ap (λ n. at + n) (long e)) in
      let rest = given_from (before ++ shown e) es in
      let rows = rw (append_assoc before (shown e) (flat_map shown es)) at rest in
      rw (first, others, next) (ap₂ (λ (r : Row) (rs : List Row). r ∷ rs) (is before (flat_map shown es) e) rows)

  -- the rows that a statement of n rows is given
  pub rows_given : (n : ℕ) (es : List E) → length es ≡ n
      → value_rows ((head ++ flat_map shown es) ++ []) width n (rows_terms one step n 0) ≡ map given es
  rows_given n es is_long = rw (← is_long, append-nil (head ++ flat_map shown es)) (given_from [] es)

-- one more than the last number, or 1 if there is none
abbrev next_id : {X : Type 0} → (X → ℕ) → List X → ℕ
next_id id = fold (λ _ x. id x + 1) 1

-- rows numbered from n on
abbrev made : {X E : Type 0} → (ℕ → E → X) → ℕ → List E → List X
made make n [] = []
made make n (e ∷ es) = make n e ∷ made make (n + 1) es

module _ {X E : Type 0} (make : ℕ → E → X) (key : X → ℤ)
    (id : X → ℕ) (key_is : (x : X) → key x ≡ pos (id x)) (id_is : (n : ℕ) (e : E) → id (make n e) ≡ n)
    (rest : X → Row) (cols : E → Row) (rest_is : (n : ℕ) (e : E) → rest (make n e) ≡ cols e) where
  next_is : (m : ℤ) (n : ℕ) → m ≡ pos n → (xs : List X)
      → fold (λ (_ : ℤ) (x : X). key x +ℤ pos 1) m xs ≡ pos (fold (λ (_ : ℕ) (x : X). id x + 1) n xs)
  next_is m n same [] = same
  next_is m n same (x ∷ xs) = next_is (key x +ℤ pos 1) (id x + 1) (ap (λ k. k +ℤ pos 1) (key_is x)) xs

  next_after : (n : ℕ) (xs : List X) (x : X) → fold (λ (_ : ℕ) (y : X). id y + 1) n (xs ++ x ∷ []) ≡ id x + 1
  next_after n [] x = refl
  next_after n (y ∷ xs) x = next_after (id y + 1) xs x

  -- they are numbered from the next number on, and come after the others
  puts_all : (es : List E) (xs : List X) → IsKeyedBy key xs → let all = xs ++ made make (next_id id xs) es in
      (put_all (map (stored key rest) xs) (numbered Chosen (map (stored key rest) xs)
      (map (λ e. Null ∷ cols e) es)) ≡ map (stored key rest) all) × IsKeyedBy key all
  puts_all [] xs up = rw (append-nil xs) (refl, up)
  puts_all (e ∷ es) xs up =
      let x = make (next_id id xs) e in
      let number : key x ≡ next_key key xs =
      key_is x ∙ ap pos (id_is (next_id id xs) e) ∙ sym (next_is (pos 1) 1 refl xs) in
      let last = insert_next key xs x up number in
      let row : Int (next_rowid (map (stored key rest) xs)) ∷ cols e ≡ stored key rest x =
      rw (next_typed key rest (pos 1) xs, number, rest_is (next_id id xs) e) refl in
      let put : put_row (stored key rest x) (map (stored key rest) xs) ≡ map (stored key rest)
      (xs ++ x ∷ []) = put_typed key rest x xs ∙ ap (map (stored key rest)) last in
      let then : next_id id (xs ++ x ∷ []) ≡ next_id id xs + 1 =
      next_after 1 xs x ∙ ap (λ n. n + 1) (id_is (next_id id xs) e) in
      let all : (xs ++ x ∷ [])
      ++ made make (next_id id (xs ++ x ∷ [])) es ≡ xs ++ (x ∷ made make (next_id id xs + 1) es) =
      rw then (append_assoc xs (x ∷ []) (made make (next_id id xs + 1) es)) in
      let more = puts_all es (xs ++ x ∷ []) (subst (IsKeyedBy key) last (IsKeyedBy-insert_by key xs x up)) in
      rw (row, put, ← all) more

-- ---- what is found, where one row at most passes the test

module _ {X E V : Type 0} (make : ℕ → E → X) (p : X → Bool) (t : E → Bool) (out : X → V) (shown : E → V)
    (same : (n : ℕ) (e : E) → p (make n e) ≡ t e)
    (out_is : (n : ℕ) (e : E) → out (make n e) ≡ shown e) where
  found_made : (n : ℕ) (es : List E) → option_map out (find p (made make n es)) ≡ option_map shown (find t es)
  found_made n [] = refl
  found_made n (e ∷ es) = rw (same n e) (elim (cases_Bool (t e))
      [ inl is ↦ rw (is, out_is n e) refl | inr other ↦ rw other (found_made (n + 1) es) ])

  of_both : (ys zs : List X) (v : Option V) → length ys + length zs ≤ 1 → option_map out (slice_get zs 0) ≡ v
      → (is_some v ≡ true → option_map out (slice_get ys 0) ≡ None) × (option_map out
      (option_or (slice_get ys 0) (slice_get zs 0)) ≡ option_or v (option_map out (slice_get ys 0)))
  of_both [] [] v few is = rw (← is) (λ _. refl, refl)
  of_both [] (z ∷ zs) v few is = rw (← is) (λ _. refl, refl)
  of_both (y ∷ ys) [] v few is = rw (← is) (λ some. absurd cc, refl)
  of_both (y ∷ ys) (z ∷ zs) v few is = absurd (omega (arith, few))

  -- a new row that is found is the only one, and where none is, what was found before is found
  found_after : (n : ℕ) (es : List E) (xs : List X) → length (filter p (xs ++ made make n es)) ≤ 1
      → (is_some (option_map shown (find t es)) ≡ true → option_map out (find p xs) ≡ None)
      × (option_map out (find p (xs ++ made make n es))
      ≡ option_or (option_map shown (find t es)) (option_map out (find p xs)))
  found_after n es xs few =
      let ms = made make n es in
      let fit : length (filter p xs) + length (filter p ms) ≤ 1 = omega
      (arith, few, ap length (filter-append p xs ms), length-append (filter p xs) (filter p ms)) in
      let both = of_both (filter p xs)
      (filter p ms) _ fit (ap (option_map out) (slice_get-filter p ms) ∙ found_made n es) in
      rw (slice_get-filter p xs, slice_get-filter p ms, ← find-append p xs ms) at both

rows_with : (t : StoreTable) (c : Content) (xs : List (RowOf t)) → rows_of (with_rows c t xs) t ≡ xs
rows_with Listed c xs = refl
rows_with _ c xs = refl

-- rows that leave their numbers to SQLite, and what is found of them by each key
module _ (t : StoreTable) {E V K : Type 0} (make : ℕ → E → RowOf t) (id : RowOf t → ℕ)
    (key_is : (x : RowOf t) → row_number t x ≡ pos (id x)) (id_is : (n : ℕ) (e : E) → id (make n e) ≡ n)
    (cols : E → Row) (rest_is : (n : ℕ) (e : E) → row_columns t (make n e) ≡ cols e)
    (cast_is : (e : E) → cast_row (uncounted (schema_table t)) (Null ∷ cols e) ≡ Null ∷ cols e)
    (out : RowOf t → V) (shown : E → V)
    (out_is : (n : ℕ) (e : E) → out (make n e) ≡ shown e) (at : K → RowOf t → Bool)
    (test : K → E → Bool) (same : (k : K) (n : ℕ) (e : E) → at k (make n e) ≡ test k e)
    (few : (k : K) (db : Database) (c : Content)
    → HoldsContent db c → length (filter (at k) (rows_of c t)) ≤ 1) where
  pub gains : {params : Row} {text : List ℕ} {terms : List Term} {width : ℕ} (es : List E)
      → IsWrite text (Insert (table_index t) (Values terms width))
      → value_rows (stamped (schema_table t) params) width (length terms / width) terms
      ≡ map (λ e. Null ∷ cols e) es
      → IsWriting text params (λ old new. (c : Content)
      → HoldsContent old c → (xs : List (RowOf t)) × HoldsContent new (with_rows c t xs)
      × ((k : K) → (is_some (option_map shown (find (test k) es)) ≡ true
      → option_map out (find (at k) (rows_of c t)) ≡ None)
      × (option_map out (find (at k) xs) ≡ option_or (option_map shown (find (test k) es))
      (option_map out (find (at k) (rows_of c t))))))
  gains {params} {text} {terms} {width} es it given = record {
    writes = it.writes;
    does = λ old new count ran c h.
        let put = puts_all make (row_number t)
        id key_is id_is (row_columns t) cols rest_is es (rows_of c t) (h.store.ordered t) in
        let xs = rows_of c t ++ made make (next_id id (rows_of c t)) es in
        let now = leaves t params text terms width (map (λ e. Null ∷ cols e) es) it given old new count c h ran xs
        (rw (
          h.store.rows.tables t,
          map-map (cast_row (uncounted (schema_table t)))
              (λ e. Null ∷ cols e) es ∙ map_same _ (λ e. Null ∷ cols e) cast_is es,
        ) put.0) put.1 in (
          xs,
          now,
          λ k. found_after make (at k) (test k) out shown (same k) out_is _ es (rows_of c t)
              (subst (λ l. length (filter (at k) l) ≤ 1)
              (rows_with t c xs) (few k new.now (with_rows c t xs) now)),
        );
  }
