-- What is known of a store's rows with one more receipt, and with one more body.
use Rattle.std.proofs.Common.{◌≡◌, ◌⊎◌, inl, inr, ℕ, Bool, true, false, cond, ◌==◌, List, []}
use Rattle.std.proofs.Common.{◌∷◌, ◌++◌, Option, Some, None, IsSome, is_some, refl, sym, ap, subst}
use Rattle.std.proofs.Common.{◌∙◌, nat_eq, true≢false}
use Rattle.std.specs.List.{Any, Contains, list_any}
use Rattle.std.specs.FinSet as set
use Rattle.std.specs.Cmp.{nat_cmp_total, eq_by_cmp_equiv}
use Rattle.std.proofs.lemmas.Map.Views.{list_any-from_Contains, Contains-from_any}
use Rattle.std.proofs.lemmas.Bool.{eqb-true}
use Rattle.esc_store.specs.StoreState.{SaysHeld, AreHeld, AreHeldBy, body_put}
use Rattle.esc_store.specs.ReplyValue.{ReceiptValue}
use Rattle.esc_store.specs.ListLaws.{any_front_or_last, any_front, any_last}
use Rattle.esc_events.specs.declared.assessment.Assessment.{Assessment}
use Rattle.esc_events.specs.Assessment.{held_row}
use Rattle.esc_events.specs.Receipts.{is_row, receipt_by}
use Rattle.esc_events.specs.HeldLaws.{same_self, exact}
use Rattle.esc_desk.proofs.HeldReceipts.{holds_from_says, says_from_holds}
use Rattle.esc_desk.proofs.HeldRows.{is_row_of}
use Rattle.esc_store.specs.Holding.{IsInserted}

-- ---- the rows that receipts say are held

-- a receipt that says of one row that it is held, and that row is one of them now
pub told_more : {receipts : List ReceiptValue} {told more : List ℕ} {row : ℕ} (receipt : ReceiptValue)
    → AreHeldBy receipts told → IsInserted told row more
    → SaysHeld row receipt → ((r : ℕ) → SaysHeld r receipt → r ≡ row)
    → AreHeldBy (receipts ++ receipt ∷ []) more
told_more {receipts} {told} {more} {row} receipt are inserted says only = record {
  rising = inserted.rising;
  each = λ r. (
    λ there. to r ((inserted.each r).0 there),
    λ any. (inserted.each r).1 (back r (any_front_or_last (SaysHeld r) receipts receipt any)),
  );
}
  where
    to : (r : ℕ) → (r ≡ row) ⊎ Contains told r → Any (SaysHeld r) (receipts ++ receipt ∷ [])
    to r (inl is) = any_last (SaysHeld r) receipts receipt (subst (λ (q : ℕ). SaysHeld q receipt) (sym is) says)
    to r (inr there) = any_front (SaysHeld r) receipts receipt ((are.each r).0 there)

    back : (r : ℕ) → Any (SaysHeld r) receipts ⊎ SaysHeld r receipt → (r ≡ row) ⊎ Contains told r
    back r (inl any) = inr ((are.each r).1 any)
    back r (inr said) = inl (only r said)

-- a receipt that says so of no row
pub told_same : {receipts : List ReceiptValue} {told : List ℕ} (receipt : ReceiptValue)
    → AreHeldBy receipts told → ((r : ℕ) → SaysHeld r receipt → ⊥)
    → AreHeldBy (receipts ++ receipt ∷ []) told
told_same {receipts} {told} receipt are none = record {
  rising = are.rising;
  each = λ r. (
    λ there. any_front (SaysHeld r) receipts receipt ((are.each r).0 there),
    λ any. back r (any_front_or_last (SaysHeld r) receipts receipt any),
  );
}
  where
    back : (r : ℕ) → Any (SaysHeld r) receipts ⊎ SaysHeld r receipt → Contains told r
    back r (inl any) = (are.each r).1 any
    back r (inr said) = absurd (none r said)

-- ---- what a receipt says

module _ (number digest : List ℕ) where
  abbrev receipt_of : Assessment → Bool → ReceiptValue
  receipt_of found again = receipt_by number digest false found again

  -- it says that a row is held just where that is the row of what was found
  pub says_row : (f : Assessment) (again : Bool) (r : ℕ) → held_row f ≡ Some r → SaysHeld r (receipt_of f again)
  says_row f again r held = says_from_holds r number digest false f again (ap (is_row r) held ∙ same_self r)

  pub row_said : (f : Assessment) (again : Bool) (r : ℕ) → SaysHeld r (receipt_of f again) → held_row f ≡ Some r
  row_said f again r says = is_row_of r (held_row f) (holds_from_says r number digest false f again says)

-- ---- the rows of which a body is held

-- the body that was put is there
pub put_at : (bodies : ℕ → Option (List ℕ)) (row : ℕ) (body : List ℕ)
    → body_put bodies row body row ≡ Some body
put_at bodies row body = ap (λ b. cond b (Some body) (bodies row)) (same_self row)

-- the rows that are held, with one more
pub held_more : (bodies : ℕ → Option (List ℕ)) (row : ℕ) (body : List ℕ) (held more : List ℕ)
    → AreHeld bodies held → IsInserted held row more → AreHeld (body_put bodies row body) more
held_more bodies row body held more are inserted = record {
  rising = inserted.rising;
  each = λ r. (λ there. to r ((inserted.each r).0 there), λ some. (inserted.each r).1 (back r (r == row) refl some));
}
  where
    still : (b : Bool) (o : Option (List ℕ)) → IsSome o → IsSome (cond b (Some body) o)
    still true o some = refl
    still false o some = some

    to : (r : ℕ) → (r ≡ row) ⊎ Contains held r → IsSome (body_put bodies row body r)
    to r (inl is) = subst (λ (q : ℕ). IsSome (body_put bodies row body q))
        (sym is) (ap is_some (put_at bodies row body))
    to r (inr there) = still (r == row) (bodies r) ((are.each r).0 there)

    back : (r : ℕ) (b : Bool)
        → (r == row) ≡ b → IsSome (cond b (Some body) (bodies r)) → (r ≡ row) ⊎ Contains held r
    back r true is some = inl (eqb-true r row is)
    back r false is some = inr ((are.each r).1 some)

-- ---- whether a row is one of them

-- a row that is found among others is one of them
pub contained : (rows : List ℕ) (r : ℕ) → list_any (λ q. nat_eq q r) rows ≡ true → Contains rows r
contained rows r any = Contains-from_any exact
    r rows (sym (set.contains-from_list nat_cmp_total rows r) ∙ set.contains-from_list_nat rows r ∙ any)

-- a row that is not among those with a body has none
pub no_body : (bodies : ℕ → Option (List ℕ)) (rows : List ℕ)
    → AreHeld bodies rows → (r : ℕ) → list_any (λ q. nat_eq q r) rows ≡ false → bodies r ≡ None
no_body bodies rows are r other = by_body (bodies r) refl
  where
    any : IsSome (bodies r) → list_any (λ q. nat_eq q r) rows ≡ true
    any some =
        sym (set.contains-from_list_nat rows r)
        ∙ set.contains-from_list nat_cmp_total rows r
        ∙ list_any-from_Contains (eq_by_cmp_equiv nat_cmp_total) r rows ((are.each r).1 some)

    by_body : (o : Option (List ℕ)) → bodies r ≡ o → o ≡ None
    by_body None is = refl
    by_body (Some b) is = absurd (true≢false (sym (any (ap is_some is)) ∙ other))
