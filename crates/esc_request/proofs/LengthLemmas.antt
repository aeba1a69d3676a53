-- One more header line, and one more digit.
use Rattle.std.proofs.Common.{◌≡◌, ℕ, ◌<◌, ◌≤◌, ◌+◌, List, [], ◌∷◌, ◌++◌, Bool, true}
use Rattle.std.proofs.Common.{false, ◌||◌, cond, if◌then◌else◌, length, take, map, get_or, refl, sym}
use Rattle.std.proofs.Common.{◌∙◌, ap, subst, arith, append-nil}
use Rattle.std.specs.List.{list_any, list_all, filter}
use Rattle.std.proofs.lemmas.List.Folds.{list_any_more, list_all_more}
use Rattle.std.proofs.lemmas.List.Elements.{filter_more}
use Rattle.std.proofs.lemmas.List.{length-map, get_or-map}
use Rattle.std.proofs.lemmas.Bool.Decides.{nat_tests}
use Rattle.std.specs.Char.{digit_value, is_ascii_digit}
use Rattle.esc_request.specs.BodyLength.{HeaderLine, Values, values_of, one_more, value_after}

module _ {A : Type 0} (p : HeaderLine → Bool)
    (f : A → HeaderLine) (xs : List A) (i : ℕ) (d : A) (here : i < length xs) where
  in_map : i < length (map f xs)
  in_map = subst (λ (n : ℕ). i < n) (sym (length-map xs f)) here

  pub any_more : (found hit : Bool) → found ≡ list_any p (take i (map f xs))
      → hit ≡ p (f (get_or xs i d)) → (found || hit) ≡ list_any p (take (i + 1) (map f xs))
  any_more found hit before now =
      let step : list_any p (take (i + 1) (map f xs)) ≡ (list_any p (take i (map f xs)) || p (f (get_or xs i d))) =
      list_any_more p (map f xs) i (f d) in_map ∙ ap (λ (x : HeaderLine). list_any
      p (take i (map f xs)) || p x) (get_or-map f xs i d (f d) here) in
      cc (step, before, now)

  filtered : filter p (take (i + 1) (map f xs))
      ≡ filter p (take i (map f xs)) ++ cond (p (f (get_or xs i d))) (f (get_or xs i d) ∷ []) []
  filtered = filter_more p (map f xs) i (f d) in_map ∙ ap (λ (x : HeaderLine). filter
      p (take i (map f xs)) ++ cond (p x) (x ∷ []) []) (get_or-map f xs i d (f d) here)

  pub values_more : (old new : Values) → old ≡ values_of (filter p (take i (map f xs))) → new
      ≡ value_after p old (f (get_or xs i d)) → new ≡ values_of (filter p (take (i + 1) (map f xs)))
  values_more old new before now =
      let lines = filter p (take i (map f xs)) in
      let line = f (get_or xs i d) in
      now ∙ ap (λ (v : Values). value_after p v line) before
      ∙ with_line lines line (p line) ∙ ap values_of (sym filtered)
    where
      appended : (lines : List HeaderLine) (line : HeaderLine)
          → one_more (values_of lines) line.1 ≡ values_of (lines ++ line ∷ [])
      appended [] line = refl
      appended (a ∷ []) line = refl
      appended (a ∷ b ∷ rest) line = refl

      with_line : (lines : List HeaderLine) (line : HeaderLine) (passes : Bool)
          → (if passes then one_more (values_of lines) line.1 else values_of lines)
          ≡ values_of (lines ++ cond passes (line ∷ []) [])
      with_line lines line true = appended lines line
      with_line lines line false = ap values_of (sym (append-nil lines))

-- the value of a digit
pub digit_value_is : (c : ℕ) → 48 ≤ c → c ≤ 57 → digit_value c + 48 ≡ c
digit_value_is c low high = grind (arith, nat_tests)

-- one more digit
pub digits_more : (text : List ℕ) (i : ℕ)
    → i < length text → list_all is_ascii_digit (take i text) ≡ true
    → is_ascii_digit (get_or text i 0) ≡ true → list_all is_ascii_digit (take (i + 1) text) ≡ true
digits_more text i here before now = list_all_more is_ascii_digit text i 0 here ∙ cc (before, now)
