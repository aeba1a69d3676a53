-- The arrivals whose bodies count: all but early ones whose body no row listed.
use Rattle.std.proofs.Common.{◌≡◌, inl, inr, ℕ, suc, Bool, true, false, cond, not, filter, List, []}
use Rattle.std.proofs.Common.{◌∷◌, ◌++◌, Option, Some, None, is_none, Result, refl, sym, ap, subst}
use Rattle.std.proofs.Common.{◌∙◌, true≢false}
use Rattle.std.proofs.lemmas.List.Elements.{filter-append}
use Rattle.std.proofs.lemmas.Bool.{and_parts, not-true, not_from_false}
use Rattle.std.proofs.lemmas.Option.{same_Some, none-some}
use Rattle.esc_bundle.specs.declared.refusal.Refusal.{Refusal}
use Rattle.esc_tables.specs.DepositValue.{DepositValue}
use Rattle.esc_manifest.specs.declared.row.MRow.{MRow}
use Rattle.esc_store.specs.declared.reply.Verdict.TheVariants.{A2}
use Rattle.esc_store.specs.ReplyValue.{ReplyValue, reply_kept, is_alike, reply_alike}
use Rattle.esc_events.specs.declared.assessment.Assessment.{Assessment}
use Rattle.esc_events.specs.ArrivalValue.{ArrivalValue}
use Rattle.esc_events.specs.Events.{EventValue, Coming, union, coming, comings_after, comings}
use Rattle.esc_events.specs.Events.EventValue.{arrived}
use Rattle.esc_events.specs.Assessment.{found_at, row_with_digest, held_row}
use Rattle.esc_events.specs.Receipts.{receipt_by, holds_any, alike, receipt_for, receipts_after, unlisted_verdict}
use Rattle.esc_events.specs.StateAfter.{Among, is_lost, kept_arrivals}
use Rattle.esc_desk.proofs.Distinct.{kept_one}
use Rattle.esc_desk.proofs.EventLemmas.{comings_on, comings-arrived}
use Rattle.esc_desk.proofs.Members.{among-front, passed_among, passed_test, among_passed}

no_row_is : (o : Option ℕ) → is_none o ≡ true → o ≡ None
no_row_is None is = refl
no_row_is (Some q) is = absurd (true≢false (sym is))

module _ (digest : List ℕ → List ℕ) (reads : List ℕ → Result DepositValue Refusal) where
  -- the body of an arrival is kept
  abbrev pub is_kept : Coming → Bool
  is_kept c = not (is_lost digest reads c)

  -- an arrival counts exactly if it came and its body was kept
  pub counted_came : (e : List EventValue) (c : Coming)
      → Among (kept_arrivals digest reads e) c → Among (comings e) c
  counted_came e c there = passed_among is_kept (comings e) c there

  pub counted_kept : (e : List EventValue) (c : Coming)
      → Among (kept_arrivals digest reads e) c → is_lost digest reads c ≡ false
  counted_kept e c there = not-true (is_lost digest reads c) (passed_test is_kept (comings e) c there)

  pub came_counts : (e : List EventValue) (c : Coming)
      → Among (comings e) c → is_lost digest reads c ≡ false → Among (kept_arrivals digest reads e) c
  came_counts e c there kept = among_passed is_kept (comings e) c there (not_from_false (is_lost digest reads c) kept)

  -- one more arrival counts
  pub kept_arrivals-arrived : (e : List EventValue) (a : ArrivalValue) → kept_arrivals
      digest reads (e ++ arrived a ∷ []) ≡ kept_arrivals digest reads e ++ coming (union e) a ∷ []
  kept_arrivals-arrived e a = ap (filter is_kept) (comings-arrived e a)
      ∙ filter-append is_kept (comings e) (coming (union e) a ∷ [])

  -- what counts still counts with one more event
  pub counted_before : (e : List EventValue) (x : EventValue) (c : Coming)
      → Among (kept_arrivals digest reads e) c → Among (kept_arrivals digest reads (e ++ x ∷ [])) c
  counted_before e x c there =
      let came = among-front (comings e) (comings_after (union e) (x ∷ [])) c (counted_came e c there) in
      came_counts (e ++ x ∷ []) c (subst (λ (l : List Coming). Among l c)
      (sym (comings_on [] e (x ∷ []))) came) (counted_kept e c there)

  -- an early arrival whose body no row listed had the verdict A2
  lost_verdict : (before : List Coming) (c : Coming)
      → is_lost digest reads c ≡ true → (receipt_for digest reads before c).verdict ≡ A2
  lost_verdict before c lost =
      let of = and_parts c.early (is_none (row_with_digest c.rows (digest c.body))) lost in
      ap (λ (o : Option ℕ). (receipt_by c.number (digest c.body) c.early (found o)
      (holds_any digest reads before (held_row (found o)))).verdict)
      (no_row_is (row_with_digest c.rows (digest c.body)) of.1)
      ∙ ap unlisted_verdict of.0
    where
      found : Option ℕ → Assessment
      found o = found_at c.rows o (reads c.body)

  -- an arrival of the list is a duplicate of this one, and its body was kept
  abbrev KeptAlike : Coming → List Coming → Type 0
  KeptAlike a ds = (c : Coming) × Among ds c × (alike digest reads a c ≡ true) × (is_lost digest reads c ≡ false)

  -- the arrival of a kept reply counts, if the verdict isn't A2
  pub alike_counts : (m : List MRow) (a : Coming) (n : ℕ) (before ds : List Coming) (y : ReplyValue)
      → reply_alike m n a.number (digest a.body) (receipts_after digest reads before ds) ≡ Some y
      → (y.verdict ≡ A2 → ⊥)
      → (c : Coming) × Among ds c × (alike digest reads a c ≡ true) × (is_lost digest reads c ≡ false)
  alike_counts m a n before [] y e other = absurd (none-some _ e)
  alike_counts m a n before (c ∷ ds) y e other =
      by_test (is_alike a.number (digest a.body) (receipt_for digest reads before c)) refl e
      (λ behind. alike_counts m a (suc n) (before ++ c ∷ []) ds y behind other)
    where
      reply_behind : Option ReplyValue
      reply_behind = reply_alike m (suc n) a.number (digest a.body)
          (receipts_after digest reads (before ++ c ∷ []) ds)

      kept : reply_kept m n (receipt_for digest reads before c) ≡ y
          → (b : Bool) → is_lost digest reads c ≡ b → is_lost digest reads c ≡ false
      kept same true lost =
          absurd (other (ap (λ (z : ReplyValue). z.verdict) (sym same) ∙ lost_verdict before c lost))
      kept same false is = is

      by_test : (b : Bool) → is_alike a.number (digest a.body) (receipt_for digest reads before c) ≡ b
          → cond b (Some (reply_kept m n (receipt_for digest reads before c))) reply_behind ≡ Some y
          → (reply_behind ≡ Some y → KeptAlike a ds) → KeptAlike a (c ∷ ds)
      by_test true like e rest = (
        c,
        inl refl,
        sym (kept_one digest reads before c a) ∙ like,
        kept (same_Some _ _ e) (is_lost digest reads c) refl,
      )
      by_test false unlike e rest = let x = rest e in (x.0, inr x.1, x.2, x.3)
