-- One more arrival, in the list of distinct ones and their receipts.
use Rattle.std.proofs.Common.{◌≡◌, ℕ, Bool, true, false, cond, not, filter, ◌&&◌, ◌||◌, List, []}
use Rattle.std.proofs.Common.{◌∷◌, ◌++◌, Result, refl, sym, ap, ap₂, ◌∙◌, append_assoc, append-nil}
use Rattle.std.specs.List.{list_any}
use Rattle.std.specs.Str.{bytes_eq}
use Rattle.std.specs.Cmp.{IsEquivalence}
use Rattle.std.specs.Cmp.Lexicographic.{nat_list_eq_equiv}
use Rattle.std.proofs.lemmas.List.Elements.{filter-append}
use Rattle.std.proofs.lemmas.Bool.{and_parts}
use Rattle.esc_bundle.specs.declared.refusal.Refusal.{Refusal}
use Rattle.esc_tables.specs.DepositValue.{DepositValue}
use Rattle.esc_events.specs.declared.assessment.Assessment.{Assessment}
use Rattle.esc_events.specs.declared.assessment.Assessment.TheVariants.{Unlisted, Unreadable, Differing, Holding}
use Rattle.esc_events.specs.Events.{Coming}
use Rattle.esc_events.specs.Assessment.{held_row}
use Rattle.esc_store.specs.ReplyValue.{ReceiptValue, is_alike}
use Rattle.esc_events.specs.Receipts.{receipt_by, holds_any, found_then, alike, distinct, receipt_for, receipts_after}

module _ (digest : List ℕ → List ℕ) (reads : List ℕ → Result DepositValue Refusal) where
  pub alike_laws : IsEquivalence (alike digest reads)
  alike_laws = record {
    refl = λ a. ap₂ (λ x y. x && y) (nat_list_eq_equiv.refl a.number) (nat_list_eq_equiv.refl (digest a.body));
    symm = λ a b. ap₂ (λ x y. x && y) (nat_list_eq_equiv.symm a.number b.number)
        (nat_list_eq_equiv.symm (digest a.body) (digest b.body));
    congr = λ a b d e.
        let p = and_parts _ _ e in
        ap₂ (λ x y. x && y)
        (nat_list_eq_equiv.congr a.number b.number d.number p.0)
        (nat_list_eq_equiv.congr (digest a.body) (digest b.body) (digest d.body) p.1);
  }

  -- those of a list that aren't like b
  abbrev unlike : Coming → List Coming → List Coming
  unlike b l = filter (λ x. not (alike digest reads b x)) l

  -- what is not like b is like one of a list exactly if it is like one of those that aren't like b
  any_unlike : (a b : Coming) → alike digest reads a b ≡ false → (l : List Coming)
      → list_any (alike digest reads a) l ≡ list_any (alike digest reads a) (unlike b l)
  any_unlike a b other [] = refl
  any_unlike a b other (x ∷ l) = by_test (alike digest reads b x) refl (any_unlike a b other l)
    where
      apart : alike digest reads b x ≡ true → alike digest reads a x ≡ false
      apart like = alike_laws.symm a x ∙ sym (alike_laws.congr b x a like) ∙ alike_laws.symm b a ∙ other

      by_test : (t : Bool) → alike digest reads b x ≡ t
          → list_any (alike digest reads a) l ≡ list_any (alike digest reads a) (unlike b l)
          → (alike digest reads a x || list_any (alike digest reads a) l)
          ≡ list_any (alike digest reads a) (cond (not t) (x ∷ unlike b l) (unlike b l))
      by_test true like rest = ap (λ s. s || list_any (alike digest reads a) l) (apart like) ∙ rest
      by_test false is rest = ap (λ s. alike digest reads a x || s) rest

  -- an arrival is like one of a list exactly if it is like one of the distinct ones
  pub any_alike : (l : List Coming) (a : Coming)
      → list_any (alike digest reads a) l ≡ list_any (alike digest reads a) (distinct digest reads l)
  any_alike [] a = refl
  any_alike (b ∷ l) a = ap (λ s. alike digest reads a b || s) (any_alike l a)
      ∙ by_test (alike digest reads a b) refl
    where
      by_test : (t : Bool) → alike digest reads a b ≡ t
          → (t || list_any (alike digest reads a) (distinct digest reads l))
          ≡ (t || list_any (alike digest reads a) (unlike b (distinct digest reads l)))
      by_test true like = refl
      by_test false other = any_unlike a b other (distinct digest reads l)

  -- one more arrival is one more distinct one, or none
  pub distinct-push : (l : List Coming) (a : Coming)
      → distinct digest reads (l ++ a ∷ []) ≡ cond (list_any (alike digest reads a) l)
      (distinct digest reads l) (distinct digest reads l ++ a ∷ [])
  distinct-push [] a = refl
  distinct-push (b ∷ l) a = ap (λ (x : List Coming). b ∷ unlike b x) (distinct-push l a)
      ∙ by_tests (alike digest reads a b) refl (list_any (alike digest reads a) l)
    where
      before : List Coming
      before = distinct digest reads l

      pushed : (t : Bool) → alike digest reads a b ≡ t
          → unlike b (before ++ a ∷ []) ≡ unlike b before ++ cond (not t) (a ∷ []) []
      pushed t is = filter-append (λ y. not (alike digest reads b y)) before (a ∷ [])
          ∙ ap (λ s. unlike b before ++ cond (not s) (a ∷ []) []) (alike_laws.symm b a ∙ is)

      by_tests : (t : Bool) → alike digest reads a b ≡ t → (u : Bool)
          → (b ∷ unlike b (cond u before (before ++ a ∷ [])))
          ≡ cond (t || u) (b ∷ unlike b before) (b ∷ unlike b before ++ a ∷ [])
      by_tests true is true = refl
      by_tests true is false = ap (λ (x : List Coming). b ∷ x) (pushed true is ∙ append-nil (unlike b before))
      by_tests false is true = refl
      by_tests false is false = ap (λ (x : List Coming). b ∷ x) (pushed false is)

  -- ---- receipts
  pub receipts-push : (before ds : List Coming) (a : Coming)
      → receipts_after digest reads before (ds ++ a ∷ [])
      ≡ receipts_after digest reads before ds ++ receipt_for digest reads (before ++ ds) a ∷ []
  receipts-push before [] a = ap (λ (x : List Coming). receipt_for digest reads x a ∷ []) (sym (append-nil before))
  receipts-push before (b ∷ ds) a =
      ap (λ (x : List ReceiptValue). receipt_for digest reads before b ∷ x)
      (receipts-push (before ++ b ∷ []) ds a
      ∙ ap (λ (x : List Coming). receipts_after digest reads (before ++ b ∷ []) ds
      ++ receipt_for digest reads x a ∷ []) (append_assoc before (b ∷ []) ds))

  both_kept : (n k : List ℕ) (early : Bool) (f : Assessment) (again : Bool)
      → ((receipt_by n k early f again).number ≡ n) × ((receipt_by n k early f again).digest ≡ k)
  both_kept n k early Unlisted again = (refl, refl)
  both_kept n k early (Unreadable r u) again = (refl, refl)
  both_kept n k early (Differing r) again = (refl, refl)
  both_kept n k early (Holding r d) again = (refl, refl)

  -- a receipt is of an arrival exactly if that is like the receipt's one
  pub kept_one : (before : List Coming) (b a : Coming)
      → is_alike a.number (digest a.body) (receipt_for digest reads before b) ≡ alike digest reads a b
  kept_one before b a =
      let kept = both_kept b.number (digest b.body) b.early (found_then digest reads b)
      (holds_any digest reads before (held_row (found_then digest reads b))) in
      ap₂ (λ (n k : List ℕ). bytes_eq n a.number && bytes_eq k (digest a.body)) kept.0 kept.1
      ∙ alike_laws.symm b a

  pub kept_any : (before ds : List Coming) (a : Coming) → list_any (is_alike a.number (digest a.body))
      (receipts_after digest reads before ds) ≡ list_any (alike digest reads a) ds
  kept_any before [] a = refl
  kept_any before (b ∷ ds) a = ap₂ (λ x y. x || y) (kept_one before b a) (kept_any (before ++ b ∷ []) ds a)
