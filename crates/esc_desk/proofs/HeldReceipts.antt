-- The rows that receipts say are held.
use Rattle.std.proofs.Common.{◌≡◌, ◌⊎◌, inl, inr, ℕ, Bool, true, false, ◌||◌, List, [], ◌∷◌}
use Rattle.std.proofs.Common.{◌++◌, Some, Result, refl, sym, ap, ◌∙◌, arith, true≢false}
use Rattle.std.specs.List.{Any, list_any}
use Rattle.std.proofs.lemmas.Bool.{or_right, eqb-true}
use Rattle.std.proofs.lemmas.Option.{same_Some}
use Rattle.esc_bundle.specs.declared.refusal.Refusal.{Refusal}
use Rattle.esc_tables.specs.DepositValue.{DepositValue}
use Rattle.esc_store.specs.StoreState.{SaysHeld}
use Rattle.esc_store.specs.ListLaws.{any_split, any_later}
use Rattle.esc_events.specs.declared.assessment.Assessment.{Assessment}
use Rattle.esc_events.specs.declared.assessment.Assessment.TheVariants.{Unlisted, Unreadable, Differing, Holding}
use Rattle.esc_events.specs.Events.{Coming}
use Rattle.esc_events.specs.Receipts.{receipt_by, found_then, holds_row, holds, receipt_for, receipts_after}
use Rattle.esc_events.specs.HeldLaws.{same_self}

-- ---- one receipt

-- it says that a row is held exactly if what was found holds the row
pub holds_from_says : (row : ℕ) (number digest : List ℕ) (early : Bool) (f : Assessment) (again : Bool)
    → SaysHeld row (receipt_by number digest early f again) → holds_row row f ≡ true
holds_from_says row number digest true Unlisted again says = let verdict = says.0 in absurd (cc)
holds_from_says row number digest false Unlisted again says = let verdict = says.0 in absurd (cc)
holds_from_says row number digest early (Unreadable r n) again says = let verdict = says.0 in absurd (cc)
holds_from_says row number digest early (Differing r) again says = let verdict = says.0 in absurd (cc)
holds_from_says row number digest early (Holding r d) again says =
    ap (λ (q : ℕ). holds_row q (Holding r d)) (sym (same_Some _ _ says.1)) ∙ same_self r

-- the receipt of a body that a row holds says so
pub says_from_holds : (row : ℕ) (number digest : List ℕ) (early : Bool) (f : Assessment) (again : Bool)
    → holds_row row f ≡ true → SaysHeld row (receipt_by number digest early f again)
says_from_holds row number digest early Unlisted again is = absurd (true≢false (sym is))
says_from_holds row number digest early (Unreadable r n) again is = absurd (true≢false (sym is))
says_from_holds row number digest early (Differing r) again is = absurd (true≢false (sym is))
says_from_holds row number digest early (Holding r d) again is = (refl, ap Some (eqb-true r row is))

-- ---- all receipts

module _ (digest : List ℕ → List ℕ) (reads : List ℕ → Result DepositValue Refusal) (row : ℕ) where
  -- a receipt of these arrivals, after those before, says that the row is held
  abbrev OneSays : List Coming → List Coming → Type 0
  OneSays before ds = Any (SaysHeld row) (receipts_after digest reads before ds)

  pub any_holds : (before ds : List Coming) → Any (SaysHeld row) (receipts_after digest reads before ds)
      → list_any (holds digest reads row) ds ≡ true
  any_holds before [] any = absurd (omega (arith, any.2))
  any_holds before (a ∷ ds) any =
      by_case (any_split (SaysHeld row) (receipt_for digest reads before a)
      (receipts_after digest reads (before ++ a ∷ []) ds) any) (any_holds (before ++ a ∷ []) ds)
    where
      by_case : SaysHeld row (receipt_for digest reads before a) ⊎ OneSays (before ++ a ∷ []) ds
          → (OneSays (before ++ a ∷ []) ds → list_any (holds digest reads row) ds ≡ true)
          → (holds digest reads row a || list_any (holds digest reads row) ds) ≡ true
      by_case (inl says) more = ap (λ b. b || list_any (holds digest reads row) ds)
          (holds_from_says row a.number (digest a.body) a.early (found_then digest reads a) _ says)
      by_case (inr behind) more = ap (λ b. holds digest reads row a || b) (more behind)
          ∙ or_right (holds digest reads row a) true refl

  pub any_says : (before ds : List Coming) → list_any (holds digest reads row) ds ≡ true
      → Any (SaysHeld row) (receipts_after digest reads before ds)
  any_says before [] any = absurd (true≢false (sym any))
  any_says before (a ∷ ds) any = by_test (holds digest reads row a) refl any (any_says (before ++ a ∷ []) ds)
    where
      by_test : (b : Bool) → holds digest reads row a ≡ b → (b || list_any (holds digest reads row) ds) ≡ true
          → (list_any (holds digest reads row) ds ≡ true → OneSays (before ++ a ∷ []) ds)
          → OneSays before (a ∷ ds)
      by_test true is any more = (
        0,
        receipt_for digest reads before a,
        omega arith,
        refl,
        says_from_holds row a.number (digest a.body) a.early (found_then digest reads a) _ is,
      )
      by_test false is any more = any_later (SaysHeld row) (receipt_for digest reads before a)
          (receipts_after digest reads (before ++ a ∷ []) ds) (more any)
