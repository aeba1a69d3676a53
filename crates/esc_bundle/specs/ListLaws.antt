-- Laws of lists and of digits' texts.
use Rattle.std.proofs.Common.{◌≡◌, Bool, true, leb, List, [], ◌∷◌, map, refl, ap}
use Rattle.std.specs.Prelude.{◌||◌}
use Rattle.std.specs.List.{list_all, list_any}
use Rattle.std.specs.Char.{is_ascii_digit}
use Rattle.std.specs.Str.Parse.{digits_value}
use Rattle.std.proofs.lemmas.Bool.{and_parts, and_from, leb-true, le-leb}
use Rattle.std.proofs.lemmas.Str.Parse.{IsDigitsTest, IsNumeralModel, numerals_by_value}

-- a test passes on one of the mapped elements exactly if the test after f passes on one of the
-- elements
pub list_any_map : {A B : Type 0} (test : B → Bool) (f : A → B) (xs : List A)
    → list_any test (map f xs) ≡ list_any (λ x. test (f x)) xs
list_any_map test f [] = refl
list_any_map test f (x ∷ xs) = ap (λ (b : Bool). test (f x) || b) (list_any_map test f xs)

digits_test : IsDigitsTest (λ ds. list_all is_ascii_digit ds ≡ true)
digits_test = record {
  empty = refl;
  parts = λ c cs e. let all = and_parts (is_ascii_digit c) (list_all is_ascii_digit cs) e in
      let digit = and_parts (leb 48 c) (leb c 57) all.0 in
      ((leb-true 48 c digit.0, leb-true c 57 digit.1), all.1);
  more = λ c cs digit all. and_from (is_ascii_digit c) (list_all is_ascii_digit cs)
      (and_from (leb 48 c) (leb c 57) (le-leb 48 c digit.0) (le-leb c 57 digit.1)) all;
}

-- texts of digits alone have their decimal values
pub digits_model : IsNumeralModel (λ ds. list_all is_ascii_digit ds ≡ true) (digits_value 10)
digits_model = numerals_by_value _ digits_test
