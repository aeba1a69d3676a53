-- The first element of a list that passes a test, and the first receipt with a number and a digest.
use Rattle.std.proofs.Common.{◌≡◌, ℕ, suc, ◌+◌, Bool, true, false, cond, ◌||◌, List, [], ◌∷◌}
use Rattle.std.proofs.Common.{◌++◌, length, Option, Some, None, is_some, refl, sym, ap, ◌∙◌, arith}
use Rattle.std.proofs.Common.{true≢false}
use Rattle.std.specs.List.{list_any, find}
use Rattle.std.specs.Option.{option_or}
use Rattle.std.proofs.lemmas.List.Folds.{find-append}
use Rattle.esc_manifest.specs.declared.row.MRow.{MRow}
use Rattle.esc_store.specs.ReplyValue.{ReplyValue, ReceiptValue, reply_kept, is_alike, reply_alike}

-- one is found just where one passes
pub any_find : {X : Type 0} (p : X → Bool) (xs : List X) → list_any p xs ≡ is_some (find p xs)
any_find p [] = refl
any_find p (x ∷ xs) = by_test (p x) (any_find p xs)
  where
    by_test : (b : Bool) → list_any p xs ≡ is_some (find p xs)
        → (b || list_any p xs) ≡ is_some (cond b (Some x) (find p xs))
    by_test true rest = refl
    by_test false rest = rest

-- what is found in the first list is found in both
pub find-front : {X : Type 0} (p : X → Bool) (xs ys : List X) (y : X)
    → find p xs ≡ Some y → find p (xs ++ ys) ≡ Some y
find-front {X = X} p xs ys y e = find-append p xs ys ∙ ap (λ (o : Option X). option_or o (find p ys)) e

-- what is not in the first list is looked for in the second
pub find-back : {X : Type 0} (p : X → Bool) (xs ys : List X)
    → find p xs ≡ None → find p (xs ++ ys) ≡ find p ys
find-back {X = X} p xs ys e = find-append p xs ys ∙ ap (λ (o : Option X). option_or o (find p ys)) e

-- one more element at the end of a list changes nothing of what is found, if one of the list passes
-- whenever it does
pub find-push-old : {X : Type 0} (p : X → Bool) (xs : List X) (x : X)
    → (p x ≡ true → list_any p xs ≡ true) → find p (xs ++ x ∷ []) ≡ find p xs
find-push-old {X = X} p xs x old = by_find (find p xs) refl
  where
    none_here : (b : Bool) → p x ≡ b → find p xs ≡ None → cond b (Some x) None ≡ None
    none_here true is none = absurd (true≢false (sym (old is) ∙ any_find p xs ∙ ap is_some none))
    none_here false is none = refl

    by_find : (o : Option X) → find p xs ≡ o → find p (xs ++ x ∷ []) ≡ find p xs
    by_find None none = find-back p xs (x ∷ []) none ∙ none_here (p x) refl none ∙ sym none
    by_find (Some y) is = find-front p xs (x ∷ []) y is ∙ sym is

-- and is found where none does
pub find-push-new : {X : Type 0} (p : X → Bool) (xs : List X) (x : X)
    → find p xs ≡ None → p x ≡ true → find p (xs ++ x ∷ []) ≡ Some x
find-push-new p xs x none is = find-back p xs (x ∷ []) none ∙ ap (λ b. cond b (Some x) None) is

module _ (m : List MRow) (number digest : List ℕ) where
  -- a receipt has the number and the digest; and the reply by the first of these that has, where they
  -- are numbered from n
  abbrev is_it : ReceiptValue → Bool
  is_it = is_alike number digest

  abbrev reply_of : ℕ → List ReceiptValue → Option ReplyValue
  reply_of n rs = reply_alike m n number digest rs

  pub none_alike : (n : ℕ) (rs : List ReceiptValue)
      → reply_alike m n number digest rs ≡ None → list_any (is_alike number digest) rs ≡ false
  none_alike n [] e = refl
  none_alike n (r ∷ rs) e = by_test (is_it r) (none_alike (suc n) rs) e
    where
      by_test : (b : Bool) → (reply_of (suc n) rs ≡ None → list_any is_it rs ≡ false)
          → cond b (Some (reply_kept m n r)) (reply_of (suc n) rs) ≡ None → (b || list_any is_it rs) ≡ false
      by_test true cache e = absurd (cc)
      by_test false cache e = cache e

  pub some_alike : (n : ℕ) (rs : List ReceiptValue) (y : ReplyValue)
      → reply_alike m n number digest rs ≡ Some y → list_any (is_alike number digest) rs ≡ true
  some_alike n [] y e = absurd (cc)
  some_alike n (r ∷ rs) y e = by_test (is_it r) (some_alike (suc n) rs y) e
    where
      by_test : (b : Bool) → (reply_of (suc n) rs ≡ Some y → list_any is_it rs ≡ true)
          → cond b (Some (reply_kept m n r)) (reply_of (suc n) rs) ≡ Some y → (b || list_any is_it rs) ≡ true
      by_test true cache e = refl
      by_test false cache e = cache e

  pub alike-front : (n : ℕ) (rs more : List ReceiptValue) (y : ReplyValue)
      → reply_alike m n number digest rs ≡ Some y → reply_alike m n number digest (rs ++ more) ≡ Some y
  alike-front n [] more y e = absurd (cc)
  alike-front n (r ∷ rs) more y e = by_test (is_it r) (alike-front (suc n) rs more y) e
    where
      by_test : (b : Bool) → (reply_of (suc n) rs ≡ Some y → reply_of (suc n) (rs ++ more) ≡ Some y)
          → cond b (Some (reply_kept m n r)) (reply_of (suc n) rs) ≡ Some y
          → cond b (Some (reply_kept m n r)) (reply_of (suc n) (rs ++ more)) ≡ Some y
      by_test true cache e = e
      by_test false cache e = cache e

  -- a last receipt with the number and the digest is found, if no receipt before it has them
  pub alike-last : (n : ℕ) (rs : List ReceiptValue) (r : ReceiptValue)
      → reply_alike m n number digest rs ≡ None → is_alike number digest r ≡ true
      → reply_alike m n number digest (rs ++ r ∷ []) ≡ Some (reply_kept m (n + length rs) r)
  alike-last n [] r e is = ap (λ b. cond b (Some (reply_kept m n r)) None) is
      ∙ ap (λ (k : ℕ). Some (reply_kept m k r)) (omega arith)
  alike-last n (x ∷ rs) r e is = by_test (is_it x) (λ none. alike-last (suc n) rs r none is) e
    where
      count : suc n + length rs ≡ n + suc (length rs)
      count = omega arith

      by_test : (b : Bool) → (reply_of (suc n) rs ≡ None
          → reply_of (suc n) (rs ++ r ∷ []) ≡ Some (reply_kept m (suc n + length rs) r))
          → cond b (Some (reply_kept m n x)) (reply_of (suc n) rs) ≡ None
          → cond b (Some (reply_kept m n x)) (reply_of (suc n) (rs ++ r ∷ []))
          ≡ Some (reply_kept m (n + suc (length rs)) r)
      by_test true cache e = absurd (cc)
      by_test false cache e = cache e ∙ ap (λ (k : ℕ). Some (reply_kept m k r)) count
