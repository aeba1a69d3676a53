-- What is judged of parked bodies, row by row.
use Rattle.std.proofs.Common.{◌≡◌, ℕ, suc, ◌+◌, ◌-◌, ◌<◌, Bool, true, false, cond, not, ◌&&◌}
use Rattle.std.proofs.Common.{filter, List, [], ◌∷◌, ◌++◌, length, Option, Some, None, is_some, Ok}
use Rattle.std.proofs.Common.{refl, sym, ap, ◌∙◌, append_assoc, append-nil, arith}
use Rattle.std.proofs.lemmas.Bool.{and_right}
use Rattle.esc_tables.specs.DepositValue.{DepositValue}
use Rattle.esc_tables.specs.Reading.{reading}
use Rattle.esc_manifest.specs.declared.row.MRow.{MRow}
use Rattle.esc_manifest.specs.ManifestRows.{row_at}
use Rattle.esc_events.specs.declared.assessment.Assessment.{Assessment}
use Rattle.esc_events.specs.declared.assessment.Assessment.TheVariants.{Differing, Holding}
use Rattle.esc_events.specs.Assessment.{as_listed, found, compared}
use Rattle.esc_events.specs.Receipts.{holds_row}
use Rattle.esc_events.specs.Amended.{judged, parked_for, is_adopted, is_dropped, numbers_from}
use Rattle.esc_events.specs.Amended.{adopted_rows, dropped_rows}
use Rattle.esc_events.specs.HeldLaws.{same_self}
use Rattle.esc_desk.specs.declared.judging.Judgement.{Judgement}
use Rattle.esc_desk.specs.declared.judging.Judgement.TheVariants.{Absent, Dropped, Adopted}
use Rattle.esc_desk.specs.declared.judging.Judged.{Judged}
use Rattle.esc_desk.specs.Judging.{AreJudged, IsJudgement, adopted_by, dropped_by, judgement_of}

module _ (rows : List MRow) (parked : List ℕ → Option (List ℕ)) where
  -- ---- one row

  -- a body is parked for a row, and this is found of it
  judged_by : (row : ℕ) (text : List ℕ) (f : Assessment)
      → parked_for rows parked row ≡ Some text → found rows row (reading text) ≡ f
      → judged rows row (parked_for rows parked row) ≡ cond (holds_row row f) (Some text) None
  judged_by row text f there is =
      ap (judged rows row) there ∙ ap (λ (g : Assessment). cond (holds_row row g) (Some text) None) is

  -- a body that this deposit reads from
  pub readable : (row : ℕ) (text : List ℕ) (d : DepositValue)
      → parked_for rows parked row ≡ Some text → reading text ≡ Ok d
      → IsJudgement rows parked row (judgement_of (compared rows row d))
  readable row text d there reads = by_test (as_listed (row_at rows row).header d.header) refl
    where
      found_is : (b : Bool) → as_listed (row_at rows row).header d.header ≡ b
          → found rows row (reading text) ≡ cond b (Holding row d) (Differing row)
      found_is b is = ap (found rows row) reads ∙ ap (λ t. cond t (Holding row d) (Differing row)) is

      by_test : (b : Bool) → as_listed (row_at rows row).header d.header ≡ b
          → IsJudgement rows parked row (judgement_of (cond b (Holding row d) (Differing row)))
      by_test true is = ap is_some (judged_by row text _ there (found_is true is)
          ∙ ap (λ t. cond t (Some text) None) (same_self row))
      by_test false is = (ap is_some there, ap is_some (judged_by row text _ there (found_is false is)))

  -- ---- the rows so far and those to come

  abbrev adopted_of : List ℕ → List ℕ
  adopted_of l = filter (is_adopted rows parked) l

  abbrev dropped_of : List ℕ → List ℕ
  dropped_of l = filter (is_dropped rows parked) l

  -- a row of those that are to come, by whether it passes a test
  here : (p : ℕ → Bool) (row : ℕ) (passes : Bool)
      → p row ≡ passes → (l : List ℕ) → filter p (row ∷ l) ≡ cond passes (row ∷ []) [] ++ filter p l
  here p row true is l = ap (λ b. cond b (row ∷ filter p l) (filter p l)) is
  here p row false is l = ap (λ b. cond b (row ∷ filter p l) (filter p l)) is

  -- and by its judgement
  adopted_here : (row : ℕ) (told : Judgement) → IsJudgement rows parked row told → (l : List ℕ)
      → adopted_of (row ∷ l) ≡ adopted_by told row ++ adopted_of l
  adopted_here row Absent is = here (is_adopted rows parked)
      row false (ap (λ (o : Option (List ℕ)). is_some (judged rows row o)) is)
  adopted_here row Dropped is = here (is_adopted rows parked) row false is.1
  adopted_here row Adopted is = here (is_adopted rows parked) row true is

  dropped_here : (row : ℕ) (told : Judgement) → IsJudgement rows parked row told → (l : List ℕ)
      → dropped_of (row ∷ l) ≡ dropped_by told row ++ dropped_of l
  dropped_here row Absent is = here (is_dropped rows parked)
      row false (ap (λ (o : Option (List ℕ)). is_some o && not (is_adopted rows parked row)) is)
  dropped_here row Dropped is = here (is_dropped rows parked)
      row true (ap (λ b. b && not (is_adopted rows parked row)) is.0 ∙ ap not is.1)
  dropped_here row Adopted is =
      let there = is_some (parked_for rows parked row) in
      here (is_dropped rows parked) row false (ap (λ b. there && not b) is ∙ and_right there false refl)

  -- the numbers from a row to the last one begin with it
  more_numbers : (row : ℕ) → row < length rows
      → numbers_from row (length rows - row) ≡ row ∷ numbers_from (row + 1) (length rows - (row + 1))
  more_numbers row within =
      ap (numbers_from row) count ∙ ap (λ (n : ℕ). row ∷ numbers_from n (length rows - (row + 1))) next
    where
      count : length rows - row ≡ suc (length rows - (row + 1))
      count = omega (arith, within)

      next : suc row ≡ row + 1
      next = omega arith

  -- those of the rows that pass a test: what passes of one row is appended to what was found before it
  one_more : (p : ℕ → Bool) (row : ℕ) (here : List ℕ)
      → row < length rows → ((l : List ℕ) → filter p (row ∷ l) ≡ here ++ filter p l)
      → {whole after : List ℕ} (before : List ℕ)
      → after ≡ before ++ here → before ++ filter p (numbers_from row (length rows - row)) ≡ whole
      → after ++ filter p (numbers_from (row + 1) (length rows - (row + 1))) ≡ whole
  one_more p row here within split before added cache =
      let rest = numbers_from (row + 1) (length rows - (row + 1)) in
      ap (λ (l : List ℕ). l ++ filter p rest) added
      ∙ append_assoc before here (filter p rest)
      ∙ ap (λ (l : List ℕ). before ++ l) (sym (split rest))
      ∙ ap (λ (l : List ℕ). before ++ filter p l) (sym (more_numbers row within))
      ∙ cache

  -- what was judged from one row to another, with what there is from that on, is all from the first on
  abbrev pub AreJudgedTo : ℕ → ℕ → Judged → Type 0
  AreJudgedTo from row told = (told.adopted.items ++ adopted_rows rows parked row ≡ adopted_rows rows parked from)
      × (told.dropped.items ++ dropped_rows rows parked row ≡ dropped_rows rows parked from)

  pub judged_more : (from row : ℕ) → row < length rows
      → (told : Judgement) → IsJudgement rows parked row told → (before after : Judged)
      → after.adopted.items ≡ before.adopted.items ++ adopted_by told row
      → after.dropped.items ≡ before.dropped.items ++ dropped_by told row
      → AreJudgedTo from row before → AreJudgedTo from (row + 1) after
  judged_more from row within told is before after adopted dropped so_far = (
    one_more (is_adopted rows parked) row (adopted_by told row)
        within (adopted_here row told is) before.adopted.items adopted so_far.0,
    one_more (is_dropped rows parked) row (dropped_by told row)
        within (dropped_here row told is) before.dropped.items dropped so_far.1,
  )

  -- from the last row on there are none
  no_more : (p : ℕ → Bool) (row : ℕ) (found : List ℕ) {whole : List ℕ} → row ≡ length rows
      → found ++ filter p (numbers_from row (length rows - row)) ≡ whole → found ≡ whole
  no_more p row found all cache =
      let count : length rows - row ≡ 0 = omega (arith, all) in
      sym (append-nil found) ∙ sym (ap (λ (n : ℕ). found ++ filter p (numbers_from row n)) count) ∙ cache

  pub judged_all : (from row : ℕ) (told : Judged)
      → row ≡ length rows → AreJudgedTo from row told → AreJudged rows parked from told
  judged_all from row told all so_far = record {
    adopted = no_more (is_adopted rows parked) row told.adopted.items all so_far.0;
    dropped = no_more (is_dropped rows parked) row told.dropped.items all so_far.1;
  }
