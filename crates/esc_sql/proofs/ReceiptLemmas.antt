-- What the statements on receipts do.
use Rattle.esc_sql.proofs.Common.{◌≡◌, ℕ, ◌+◌, pos, true, List, [], ◌∷◌, ◌++◌, refl, arith}
use Rattle.esc_sql.proofs.Common.{filter, ◌<ℤ◌, map, take, Option, None, sym, ap, ◌∙◌, slice_get, Some}
use Rattle.esc_sql.proofs.Common.{Ordering, reverse, bytes_eq, IsSorted, length-map, get_or-map}
use Rattle.esc_sql.proofs.Common.{All-permutation, IsPermutation-reverse, IsPermutation-map}
use Rattle.esc_sql.proofs.Common.{IsPermutation-sym, Output, col, op1, filter_same, map-map, map_same}
use Rattle.esc_sql.proofs.Common.{ascending-filter, ToNumeric, value_cmp-Int, Row, column, value_cmp}
use Rattle.esc_sql.proofs.Common.{Value}
use Rattle.esc_sql.proofs.Common.{Int, Blob, number_in, Content, first_of, number_value, ReceiptRow}
use Rattle.esc_sql.proofs.Common.{shown_receipt, receipt_number, stored_row, Receipts}
use Rattle.esc_sql.proofs.Common.{insert_receipt_text, find_receipt_text, select_receipts_text}
use Rattle.esc_sql.proofs.Common.{last_receipt_text}
use Rattle.esc_sql.proofs.Common.{verdict_rows_text, verdict_digests_text, option_map, and_parts}
use Rattle.esc_sql.proofs.Common.{nat_list_eq_equiv, Text, ordering_then, Equal, first_key}
use Rattle.esc_sql.proofs.Common.{IsPermutation-refl, nat_cmp, get_or}
use mathlib.Core.List.{reverse-cons}
use Rattle.esc_sql.specs.Changes.{AddsReceipt, is_receipt_of, last_number, is_of_verdict, ListsRows}
use Rattle.esc_sql.specs.StatementSteps.{shown_receipt_number, ShowsReceipt, ShowsReceipts, ShowsLast}
use Rattle.esc_sql.specs.StatementSteps.{row_value, ShowsRows, ShowsVerdictDigests}
use Rattle.esc_sql.proofs.Compiled.{equals, write_is, query_is}
use Rattle.esc_sql.proofs.Scan.{same_text, same_blob, and_true, same_number_of, is_match}
use Rattle.esc_sql.proofs.Values.{cast_null, cast_int, cast_number}
use Rattle.esc_sql.proofs.Finds.{few, IsKey, unique_key, both_eq, both_equiv}
use Rattle.esc_sql.proofs.Typed.{every, falls, rises}
use Rattle.esc_sql.proofs.Statements.{finds, lists, appends, asks_in_order, asks}
use Rattle.esc_sql.proofs.PartLemmas.{IsAsking, IsWriting, asking_as}
use Rattle.esc_sql.specs.Content.{unless_null}
use Rattle.esc_sql.proofs.Sorts.{then_equal, number_cmp}
use Rattle.std.specs.Prelude.{unwrap_or}
use Rattle.std.proofs.lemmas.List.{reverse-reverse}
use Rattle.std.proofs.lemmas.List.Folds.{map_fixed}
use Rattle.std.proofs.lemmas.List.Elements.{All-map}

-- ---- insert

-- the INSERT of a receipt adds it
pub adds_receipt : (r : ReceiptRow) → IsWriting insert_receipt_text (shown_receipt r) (AddsReceipt r)
adds_receipt r =
    appends Receipts (write_is refl) r refl
    (rw (
      cast_null,
      cast_int (pos r.receipt),
      cast_int (pos r.verdict),
      cast_number r.fault,
      cast_number
          r.row,
      cast_number r.again,
      cast_number r.orphans,
    ) refl) (λ x. x.receipt) (λ x. refl)

-- ---- find

receipt_keys : IsKey Receipts (λ r. (r.number, r.digest)) (both_eq bytes_eq bytes_eq)
unfolding first_key
receipt_keys =
    unique_key Receipts (2 ∷ 3 ∷ []) _ _ (both_equiv nat_list_eq_equiv nat_list_eq_equiv)
    (λ a b. rw (
      same_text a.number b.number,
      same_blob a.digest b.digest,
      and_true (bytes_eq a.digest b.digest),
    ) refl) (λ trees row h. (and_parts _ true h).0)

-- the query of one receipt shows it
pub finds_receipt : (number digest : List ℕ)
    → IsAsking find_receipt_text (Text number ∷ Blob digest ∷ []) (ShowsReceipt number digest)
finds_receipt number digest =
    finds Receipts (is_receipt_of number digest) shown_receipt (query_is refl) (λ r. rw (
      same_text
          r.number number,
      same_blob r.digest digest,
      and_true (bytes_eq r.digest digest),
    ) refl)
    (λ r. refl) (few receipt_keys (λ _. true) (number, digest))

-- ---- all, and the last

-- the query of receipts shows each
pub shows_receipts : IsAsking select_receipts_text [] ShowsReceipts
shows_receipts = lists Receipts shown_receipt (query_is refl) (λ r. refl)

-- the query of the last receipt shows it
pub shows_last : IsAsking last_receipt_text [] ShowsLast
shows_last =
    asks_in_order Receipts (λ r. (Int (pos r.receipt) ∷ [], Int (pos r.receipt) ∷ []))
    (query_is refl) every (λ r. refl) (λ c. reverse c.receipts)
    (λ db c h. (
      IsPermutation-sym _ _ (IsPermutation-reverse c.receipts),
      falls receipt_number _ (λ a b. refl) c.receipts (h.store.ordered Receipts),
    ))

last_push : (rs : List ReceiptRow) (r : ReceiptRow) → last_number (rs ++ r ∷ []) ≡ r.receipt
last_push (a ∷ b ∷ rs) r = last_push (b ∷ rs) r
last_push _ r = refl

newest : (c : Content) (rows : List Row) (first : Option Row)
    → ShowsLast c rows → slice_get rows 0 ≡ first
    → unwrap_or (option_map (λ (row : Row). number_in (column row 0)) first) 0 ≡ last_number c.receipts
newest c rows first shows is =
    rw (← is, shows) (go (reverse c.receipts) ∙ ap last_number (reverse-reverse c.receipts))
  where
    go : (rs : List ReceiptRow) → unwrap_or (option_map (λ (row : Row). number_in (column row 0))
        (slice_get (take 1 (map shown_receipt_number rs)) 0)) 0 ≡ last_number (reverse rs)
    go [] = refl
    go (r ∷ rs) = sym (ap last_number (reverse-cons r rs) ∙ last_push (reverse rs) r)

-- the number that is read of the last receipt is its own
pub last_is : (c : Content) (rows : List Row) (row : Row) (n : ℕ) → ShowsLast c rows
    → slice_get rows 0 ≡ Some row → column row 0 ≡ Int (pos n) → n ≡ last_number c.receipts
last_is c rows row n shows first is = sym (ap number_in is) ∙ newest c rows (Some row) shows first

-- where no receipt is shown the last number is 0
pub none_is : (c : Content) (rows : List Row)
    → ShowsLast c rows → slice_get rows 0 ≡ None → 0 ≡ last_number c.receipts
none_is c rows = newest c rows None

-- ---- the rows of a verdict

-- a list whose image is sorted
sorted-unmap : {X Y : Type 0} (f : X → Y) (cmp : Y → Y → Ordering) (own : X → X → Ordering) → ((a b : X)
    → cmp (f a) (f b) ≡ own a b) → (xs : List X) → IsSorted cmp (map f xs) → IsSorted own xs
sorted-unmap f cmp own same xs up k d low next =
    grind (
      arith,
      length-map xs f,
      get_or-map f xs (k + 1) d (f d),
      get_or-map f xs k d (f d),
      same (get_or xs (k + 1) d) (get_or xs k d),
      up k (f d) low,
      next,
    )

-- each row shows what it is sorted by
abbrev out : Value → Output
out v = (v ∷ [], v ∷ [])

abbrev shown : Output → Value
shown o = column o.1 0

of_verdict : (verdict : ℕ) (rs : List ReceiptRow)
    → filter (λ r. is_match (equals (col 1 4) (op1 ToNumeric (col 0 0)) ∷ [])
    (Int (pos verdict) ∷ []) (stored_row Receipts r)) rs ≡ filter (is_of_verdict verdict) rs
of_verdict verdict = filter_same _ (is_of_verdict verdict) (λ r. and_true _ ∙ same_number_of r.verdict verdict)

-- the query of the rows with a verdict shows them
pub shows_rows : (verdict : ℕ) → IsAsking verdict_rows_text (Int (pos verdict) ∷ []) (ShowsRows verdict)
shows_rows verdict = record {
  reads = (query_is {text = verdict_rows_text} refl).reads;
  shows = λ old new rows c h shows.
      let s = asks Receipts (λ r. out (row_value r))
      (query_is refl) (of_verdict verdict) (λ r. refl) old new rows c h shows in
      let passed = filter (is_of_verdict verdict) c.receipts in
      let values : map first_of rows ≡ map shown s.ordered =
      ap (map first_of) s.shown ∙ map-map first_of (λ (o : Output). o.1) s.ordered in
      let alike : map out (map shown s.ordered) ≡ s.ordered =
      map-map out shown s.ordered ∙ map_fixed (λ o. out (shown o))
      s.ordered (All-permutation (λ o. out (shown o) ≡ o) (map (λ r. out (row_value r)) passed)
      s.ordered s.same (All-map (λ o. out (shown o) ≡ o) _ passed (λ k d low. refl))) in
      record {
        sorted = rw values (sorted-unmap
            out (λ (a b : Output). ordering_then (value_cmp (column a.0 0) (column b.0 0)) Equal)
            value_cmp (λ a b. then_equal _) (map shown s.ordered) (rw (← alike) at s.sorted));
        same = rw values (rw (map-map shown (λ r. out (row_value r)) passed)
            at (IsPermutation-map shown _ s.ordered s.same));
      };
}

-- ---- as numbers

-- the rows that are shown are those with the verdict
pub lists_rows : (verdict : ℕ) (c : Content) (rows : List Row) (found : List ℕ)
    → ShowsRows verdict c rows → map number_value found ≡ map first_of rows → ListsRows verdict c found
lists_rows verdict c rows found shows are =
    let passed = filter (is_of_verdict verdict) c.receipts in
    let named : map (unless_null number_in) (map row_value passed)
    ≡ map (λ (r : ReceiptRow). r.row) passed = map-map (unless_null number_in) row_value passed
    ∙ map_same _ (λ (r : ReceiptRow). r.row) (λ r. grind arith) passed in
    record {
      sorted = sorted-unmap number_value value_cmp
          nat_cmp (λ a b. value_cmp-Int (pos a) (pos b) ∙ number_cmp a b) found (rw are shows.sorted);
      same = rw (named, ← are, map-map (unless_null number_in) number_value found)
          at (IsPermutation-map (unless_null number_in) _ _ shows.same);
    }

-- ---- digests

-- the query of the digests with a verdict shows them
pub shows_verdict_digests : (verdict : ℕ)
    → IsAsking verdict_digests_text (Int (pos verdict) ∷ []) (ShowsVerdictDigests verdict)
shows_verdict_digests verdict =
    let passed = λ (c : Content). filter (is_of_verdict verdict) c.receipts in
    asking_as (asks_in_order Receipts (λ r. (Int (receipt_number r) ∷ [], Blob r.digest ∷ []))
    (query_is refl) (of_verdict verdict) (λ r. refl) passed (λ db c h. (
      IsPermutation-refl (passed c),
      rises receipt_number _ (λ a b. refl) (passed c) (ascending-filter (λ a b. receipt_number
          a <ℤ receipt_number b) (is_of_verdict verdict) c.receipts (h.store.ordered Receipts)),
    ))) (λ c rows is. is
    ∙ sym (map-map (λ (d : List ℕ). Blob d ∷ []) (λ (r : ReceiptRow). r.digest) (passed c)))
