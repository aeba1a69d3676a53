-- Tests of names, as the code has them and as contracts see them.
use Rattle.std.proofs.Common.{◌≡◌, ◌∙◌, ℕ, List, [], ◌∷◌, Bool, true, String, Global, length, map}
use Rattle.std.proofs.Common.{string_bytes, refl, sym, ap, arith}
use Rattle.std.specs.Prelude.{◌&&◌, ◌==◌, ◌+◌, cond, nat_le, count_by}
use Rattle.std.specs.List.{list_all, list_any, zip}
use Rattle.std.specs.Str.{bytes_eq}
use Rattle.std.proofs.lemmas.Bool.Decides.{nat_tests}
use Rattle.std.proofs.lemmas.List.{length-map}
use Rattle.std.proofs.lemmas.List.Folds.{list_all-map, fold-map}
use Rattle.esc_bundle.specs.ListLaws.{list_any_map}
use Rattle.esc_envelope.specs.Id.{is_id}
use Rattle.esc_pack.specs.declared.known_table.KnownTable.{KnownTable}
use Rattle.esc_pack.specs.KnownTables.{is_key}
use Rattle.esc_pack.specs.Describing.{is_once, are_fields_of, are_same}

count_seen : (test : List ℕ → Bool) (names : List (String Global))
    → count_by (λ name. test (string_bytes name)) names ≡ count_by test (map string_bytes names)
count_seen test names = sym (fold-map (λ (n : ℕ) (name : List ℕ). n + cond (test name) 1 0) string_bytes 0 names)

-- the test of fields says what the contract says
pub fields_seen : (k : KnownTable) (names : List (String Global))
    → (nat_le (length names) 64
    && (list_all (λ name. is_id (string_bytes name)) names
    && (list_all (λ name. count_by (λ other. bytes_eq (string_bytes other) (string_bytes name)) names == 1) names
    && list_any (λ name. is_key k (string_bytes name)) names)))
    ≡ are_fields_of k (map string_bytes names)
fields_seen k names =
    let once : list_all
    (λ name. count_by (λ other. bytes_eq (string_bytes other) (string_bytes name)) names == 1) names
    ≡ list_all (is_once (map string_bytes names)) (map string_bytes names) =
    (λ j. list_all (λ name. count_seen (λ other. bytes_eq other (string_bytes name)) names j == 1) names)
    ∙ sym (list_all-map (is_once (map string_bytes names)) string_bytes names) in
    λ j. nat_le (sym (length-map names string_bytes) j) 64
    && (sym (list_all-map is_id string_bytes names) j && (once j && sym (list_any_map (is_key k) string_bytes names) j))

-- a test of pairs sees what contracts see of both
pub pairs_seen : {A B X Y : Type 0} (f : A → X) (g : B → Y) (test : X × Y → Bool) (xs : List A) (ys : List B)
    → list_all (λ p. test (f p.0, g p.1)) (zip xs ys) ≡ list_all test (zip (map f xs) (map g ys))
pairs_seen f g test [] ys = refl
pairs_seen f g test (x ∷ xs) [] = refl
pairs_seen f g test (x ∷ xs) (y ∷ ys) = ap (λ (b : Bool). test (f x, g y) && b) (pairs_seen f g test xs ys)

-- the comparison of names says what the contract says
pub same_seen : (names others : List (String Global))
    → ((length names == length others)
    && list_all (λ p. bytes_eq (string_bytes p.0) (string_bytes p.1)) (zip names others))
    ≡ are_same (map string_bytes names) (map string_bytes others)
same_seen names others =
    λ j. (sym (length-map names string_bytes) j == sym (length-map others string_bytes) j)
    && pairs_seen string_bytes string_bytes (λ p. bytes_eq p.0 p.1) names others j

-- equal numbers are told to be equal
pub equal_numbers : (a b : ℕ) → a ≡ b → (a == b) ≡ true
equal_numbers a b same = grind (arith, nat_tests)
