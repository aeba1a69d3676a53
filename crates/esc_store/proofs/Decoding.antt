-- From rows of tables to replies and steps.
use Rattle.esc_store.proofs.Common.{◌≡◌, ℕ, suc, ◌+◌, ◌<◌, List, [], ◌∷◌, ◌++◌, length}
use Rattle.esc_store.proofs.Common.{take, get_or, map, Option, None, Some, refl, sym, ap, ◌∙◌, arith}
use Rattle.esc_store.proofs.Common.{inl, inr, cases_Bool, ap₂, map_more}
use Rattle.esc_store.proofs.Common.{MRow, Step, ReceiptRow, StepRow, receipt_of, Receipt, ChainStep}
use Rattle.esc_store.proofs.Common.{step_row, A2, step_at, ReceiptValue, ReplyValue, replies_from}
use Rattle.esc_store.proofs.Common.{reply_alike, receipts_from, steps_from}
use Rattle.std.specs.Option.{MatchOption}
use Rattle.esc_sql.specs.Entries.{receipt_row}
use Rattle.esc_store.specs.ReplyValue.{reply_kept, is_alike}
use Rattle.esc_store.specs.TypedRows.{numbered_receipt}
use Rattle.esc_store.proofs.RowSteps.{step_nth, same_length}
use Rattle.esc_store.proofs.Numbered.{from_next, from_size, from_nth}

-- ---- one receipt

-- the receipt of an arrival is found under its number, or none is
pub found : (listed : List MRow) (n : ℕ) (number digest : List ℕ)
    (rs : List ReceiptValue) (o : Option ReceiptRow) → o ≡ receipt_of number digest (receipts_from n rs)
    → MatchOption o (reply_alike listed n number digest rs ≡ None)
    (λ row. (at : ℕ) × (r : ReceiptValue) × (row ≡ numbered_receipt at r)
    × (reply_alike listed n number digest rs ≡ Some (reply_kept listed at r)))
found listed n number digest [] o is = rw is refl
found listed n number digest (r ∷ rs) o is =
    elim (cases_Bool (is_alike number digest r)) [
      | inl alike ↦ rw (is, alike) (n, r, refl, refl)
      | inr other ↦ rw other (found listed (suc n) number digest rs o (rw other at is))
    ]

-- ---- all receipts

-- there are as many receipts as rows
pub receipts_size : (ss : List Receipt) (rs : List ReceiptValue)
    → map receipt_row ss ≡ receipts_from 1 rs → length ss ≡ length rs
receipts_size = from_size numbered_receipt receipts_from (λ _. refl) (λ _ _ _. refl) receipt_row 1

-- one more row of receipts is one more reply
pub one_reply : (listed : List MRow) (ss : List Receipt) (rs : List ReceiptValue) (i : ℕ) (d : Receipt)
    (replies : List ReplyValue) (reply : ReplyValue) → map receipt_row ss ≡ receipts_from 1 rs
    → i < length ss → replies ≡ replies_from listed 1 (take i rs)
    → ((n : ℕ) (r : ReceiptValue) → receipt_row (get_or ss i d) ≡ numbered_receipt n r → reply
    ≡ reply_kept listed n r) → replies ++ (reply ∷ []) ≡ replies_from listed 1 (take (i + 1) rs)
one_reply listed ss rs i d replies reply e lt so_far is =
    let size = receipts_size ss rs e in
    let no_receipt : ReceiptValue =
    record { number = []; digest = []; verdict = A2; row = None; again = None; orphans = None } in
    from_next (reply_kept listed) (replies_from listed)
    (λ _. refl) (λ _ _ _. refl) 1 replies rs i reply no_receipt so_far (omega arith)
    (is _ _ (from_nth numbered_receipt receipts_from (λ _. refl)
    (λ _ _ _. refl) receipt_row 1 ss rs i d no_receipt e lt))

-- ---- all steps

-- one more row of steps is one more step
pub one_step : (listed : List MRow)
    (ss : List ChainStep) (rows : List ℕ) (i : ℕ) (d : ChainStep) (steps : List Step) (step : Step)
    → map step_row ss ≡ steps_from 1 rows → i < length ss → steps ≡ map (step_at listed) (take i rows)
    → step ≡ step_at listed (get_or ss i d).row
    → steps ++ (step ∷ []) ≡ map (step_at listed) (take (i + 1) rows)
one_step listed ss rows i d steps step e lt so_far is =
    let size = same_length 1 ss rows e in
    ap₂ (λ (l : List Step) (s : Step). l ++ (s ∷ []))
    so_far (is ∙ ap (λ (s : StepRow). step_at listed s.row) (step_nth 1 ss rows i d e lt))
    ∙ sym (map_more (step_at listed) rows i 0 (omega arith))
