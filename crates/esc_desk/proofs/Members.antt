-- The arrivals of a list.
use Rattle.std.proofs.Common.{◌≡◌, inl, inr, ℕ, Bool, true, false, cond, not, filter, ◌||◌, List, []}
use Rattle.std.proofs.Common.{◌∷◌, ◌++◌, Option, Some, None, is_some, Result, refl, sym, ap, ◌∙◌}
use Rattle.std.proofs.Common.{true≢false}
use Rattle.std.specs.List.{list_any, find}
use Rattle.std.proofs.lemmas.Bool.{or_right}
use Rattle.std.proofs.lemmas.Option.{same_Some}
use Rattle.esc_bundle.specs.declared.refusal.Refusal.{Refusal}
use Rattle.esc_tables.specs.DepositValue.{DepositValue}
use Rattle.esc_events.specs.Events.{Coming}
use Rattle.esc_events.specs.Receipts.{alike, distinct}
use Rattle.esc_events.specs.StateAfter.{Among, arrived_body}
use Rattle.esc_desk.proofs.Searches.{any_find}

-- some arrival passes where one of them does
pub any_of : (p : Coming → Bool) (l : List Coming) (a : Coming)
    → Among l a → p a ≡ true → list_any p l ≡ true
any_of p [] a among e = absurd among
any_of p (b ∷ l) a (inl is) e = ap (λ (x : Coming). p x || list_any p l) (sym is) ∙ ap (λ t. t || list_any p l) e
any_of p (b ∷ l) a (inr there) e = ap (λ t. p b || t) (any_of p l a there e) ∙ or_right (p b) true refl

-- one of them passes where some does
pub one_of : (p : Coming → Bool) (l : List Coming)
    → list_any p l ≡ true → (a : Coming) × Among l a × (p a ≡ true)
one_of p [] e = absurd (true≢false (sym e))
one_of p (b ∷ l) e = by_test (p b) refl e (one_of p l)
  where
    by_test : (t : Bool) → p b ≡ t → (t || list_any p l) ≡ true → (list_any p l ≡ true
        → (a : Coming) × Among l a × (p a ≡ true)) → (a : Coming) × Among (b ∷ l) a × (p a ≡ true)
    by_test true is e rest = (b, inl refl, is)
    by_test false is e rest = let x = rest e in (x.0, inr x.1, x.2)

-- the first that passes is one of the list, and passes
pub first_of : (p : Coming → Bool) (l : List Coming) (y : Coming)
    → find p l ≡ Some y → Among l y × (p y ≡ true)
first_of p [] y e = absurd (cc)
first_of p (b ∷ l) y e = by_test (p b) refl e (first_of p l y)
  where
    by_test : (t : Bool) → p b ≡ t → cond t (Some b) (find p l) ≡ Some y
        → (find p l ≡ Some y → Among l y × (p y ≡ true)) → Among (b ∷ l) y × (p y ≡ true)
    by_test true is e rest = (inl (sym (same_Some _ _ e)), ap p (sym (same_Some _ _ e)) ∙ is)
    by_test false is e rest = let x = rest e in (inr x.0, x.1)

-- one of the first list is one of both
pub among-front : (l m : List Coming) (a : Coming) → Among l a → Among (l ++ m) a
among-front [] m a among = absurd among
among-front (b ∷ l) m a (inl is) = inl is
among-front (b ∷ l) m a (inr there) = inr (among-front l m a there)

-- the last arrival is one of them
pub among-last : (l : List Coming) (a : Coming) → Among (l ++ a ∷ []) a
among-last [] a = inl refl
among-last (b ∷ l) a = inr (among-last l a)

-- what a filter leaves was there
pub passed_among : (p : Coming → Bool) (l : List Coming) (a : Coming) → Among (filter p l) a → Among l a
passed_among p [] a among = among
passed_among p (b ∷ l) a among = by_test (p b) among (passed_among p l a)
  where
    by_test : (t : Bool) → Among (cond t (b ∷ filter p l) (filter p l)) a
        → (Among (filter p l) a → Among l a) → Among (b ∷ l) a
    by_test true (inl is) rest = inl is
    by_test true (inr there) rest = inr (rest there)
    by_test false there rest = inr (rest there)

-- what a filter leaves passed its test
pub passed_test : (p : Coming → Bool) (l : List Coming) (a : Coming) → Among (filter p l) a → p a ≡ true
passed_test p [] a among = absurd among
passed_test p (b ∷ l) a among = by_test (p b) refl among (passed_test p l a)
  where
    by_test : (t : Bool) → p b ≡ t → Among (cond t (b ∷ filter p l) (filter p l)) a
        → (Among (filter p l) a → p a ≡ true) → p a ≡ true
    by_test true is (inl same) rest = ap p same ∙ is
    by_test true is (inr there) rest = rest there
    by_test false is there rest = rest there

-- what passes is left by the filter
pub among_passed : (p : Coming → Bool) (l : List Coming) (a : Coming)
    → Among l a → p a ≡ true → Among (filter p l) a
among_passed p [] a among passes = among
among_passed p (b ∷ l) a (inl same) passes = ap_here (p b) (ap p (sym same) ∙ passes)
  where
    ap_here : (t : Bool) → t ≡ true → Among (cond t (b ∷ filter p l) (filter p l)) a
    ap_here true is = inl same
    ap_here false is = absurd (true≢false (sym is))
among_passed p (b ∷ l) a (inr there) passes = by_test (p b) (among_passed p l a there passes)
  where
    by_test : (t : Bool) → Among (filter p l) a → Among (cond t (b ∷ filter p l) (filter p l)) a
    by_test true rest = inr rest
    by_test false rest = rest

-- the distinct arrivals are among all
pub distinct_among : (digest : List ℕ → List ℕ) (reads : List ℕ → Result DepositValue Refusal)
    (l : List Coming) (a : Coming) → Among (distinct digest reads l) a → Among l a
distinct_among digest reads [] a among = among
distinct_among digest reads (b ∷ l) a (inl is) = inl is
distinct_among digest reads (b ∷ l) a (inr there) = inr (distinct_among digest
    reads l a (passed_among (λ x. not (alike digest reads b x)) (distinct digest reads l) a there))

-- the body of the first that passes is there exactly if one passes
pub any_found : (p : Coming → Bool) (l : List Coming) → list_any p l ≡ is_some (arrived_body (find p l))
any_found p l = any_find p l ∙ with_body (find p l)
  where
    with_body : (o : Option Coming) → is_some o ≡ is_some (arrived_body o)
    with_body None = refl
    with_body (Some c) = refl

-- where no body is found no arrival is
pub no_first : (p : Coming → Bool) (l : List Coming) → arrived_body (find p l) ≡ None → find p l ≡ None
no_first p l none = by_find (find p l) refl
  where
    by_find : (o : Option Coming) → find p l ≡ o → find p l ≡ None
    by_find None is = is
    by_find (Some y) is = absurd (true≢false (ap is_some (sym (ap arrived_body is) ∙ none)))
