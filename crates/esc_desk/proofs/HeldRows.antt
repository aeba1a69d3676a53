-- The rows that bodies hold.
use Rattle.std.proofs.Common.{◌≡◌, ℕ, Bool, true, false, ◌||◌, List, [], ◌∷◌, Option, Some, None}
use Rattle.std.proofs.Common.{Result, Ok, Err, cond, refl, sym, ap, ◌∙◌, true≢false, is_some}
use Rattle.std.specs.List.{list_any}
use Rattle.std.specs.FinSet as set
use Rattle.std.specs.Ordering.{nat_cmp, eq_by_cmp}
use Rattle.std.specs.Cmp.{nat_cmp_total}
use Rattle.std.proofs.lemmas.Bool.{eqb-true}
use Rattle.esc_bundle.specs.declared.refusal.Refusal.{Refusal}
use Rattle.esc_tables.specs.DepositValue.{DepositValue}
use Rattle.esc_manifest.specs.declared.row.MRow.{MRow}
use Rattle.esc_events.specs.declared.assessment.Assessment.TheVariants.{Unlisted, Differing, Holding}
use Rattle.esc_events.specs.Events.{Coming}
use Rattle.esc_events.specs.Assessment.{assessment, found_at, held_row}
use Rattle.esc_events.specs.Receipts.{is_row}
use Rattle.esc_events.specs.StateAfter.{with_some, holds_by, rows_of_arrivals}
use Rattle.esc_events.specs.HeldLaws.{same_test}

-- the row that is meant
pub is_row_of : (r : ℕ) (row : Option ℕ) → is_row r row ≡ true → row ≡ Some r
is_row_of r None is = absurd (true≢false (sym is))
is_row_of r (Some q) is = ap Some (eqb-true q r is)

-- a row lists the body exactly if that is found
pub listed_row : (m : List MRow) (row : Option ℕ) (told : Result DepositValue Refusal)
    → (found_at m row told ≡ Unlisted → ⊥) → is_some row ≡ true
listed_row m None told listed = absurd (listed refl)
listed_row m (Some q) told listed = refl

-- where no row lists a body none is found
pub unlisted_row : (m : List MRow) (row : Option ℕ) (told : Result DepositValue Refusal)
    → found_at m row told ≡ Unlisted → row ≡ None
unlisted_row m None told is = refl
unlisted_row m (Some q) (Err n) is = absurd (cc)
unlisted_row m (Some q) (Ok d) is = by_test _ is
  where
    by_test : (b : Bool) → cond b (Holding q d) (Differing q) ≡ Unlisted → Some q ≡ None
    by_test true is = absurd (cc)
    by_test false is = absurd (cc)

module _ (digest : List ℕ → List ℕ) (reads : List ℕ → Result DepositValue Refusal) (m : List MRow) where
  pub any_row : (l : List Coming) (r : ℕ) → list_any (λ q. eq_by_cmp nat_cmp r q)
      (rows_of_arrivals digest reads m l) ≡ list_any (holds_by digest reads m r) l
  any_row [] r = refl
  any_row (a ∷ l) r = one (held_row (assessment digest reads m a.body))
      ∙ ap (λ b. is_row r (held_row (assessment digest reads m a.body)) || b) (any_row l r)
    where
      one : (row : Option ℕ)
          → list_any (λ q. eq_by_cmp nat_cmp r q) (with_some row (rows_of_arrivals digest reads m l))
          ≡ (is_row r row || list_any (λ q. eq_by_cmp nat_cmp r q)
          (rows_of_arrivals digest reads m l))
      one None = refl
      one (Some q) = ap (λ b. b || list_any (λ q. eq_by_cmp nat_cmp r q)
          (rows_of_arrivals digest reads m l)) (same_test q r)

  -- a row is held exactly if one of the bodies holds it
  pub contains_held : (l : List Coming) (r : ℕ) → set.contains (set.from_list
      {R = nat_cmp} (rows_of_arrivals digest reads m l)) r ≡ list_any (holds_by digest reads m r) l
  contains_held l r = set.contains-from_list nat_cmp_total (rows_of_arrivals digest reads m l) r ∙ any_row l r
