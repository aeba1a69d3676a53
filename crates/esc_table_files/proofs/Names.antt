-- Names that are gathered one after another are those that come first.
use Rattle.std.proofs.Common.{◌≡◌, ℕ, Bool, true, false, cond, not, ◌&&◌, ◌||◌, List, [], ◌∷◌}
use Rattle.std.proofs.Common.{◌++◌, map, String, Global, string_bytes, refl, sym, ap, ◌∙◌, append_assoc}
use Rattle.std.proofs.Common.{append-nil}
use Rattle.std.specs.List.{filter, list_any}
use Rattle.std.specs.Str.{bytes_eq}
use Rattle.std.proofs.lemmas.List.{map_push}
use Rattle.std.proofs.lemmas.List.Folds.{list_any-append}
use Rattle.std.proofs.lemmas.Slice.Eq.{bytes_eq-Decides}
use Rattle.esc_bundle.specs.ListLaws.{list_any_map}
use Rattle.esc_table_files.specs.Layouts.{each_once}
use Rattle.esc_table_files.specs.Gathering.{with_name, with_names}

-- what is left of what is left
filter_twice : {X : Type 0} (p q : X → Bool) (xs : List X) → filter p (filter q xs) ≡ filter (λ x. q x && p x) xs
filter_twice p q [] = refl
filter_twice {X} p q (x ∷ xs) = first (filter_twice p q xs) (q x) refl
  where
    first : filter p (filter q xs) ≡ filter (λ y. q y && p y) xs → (b : Bool) → q x ≡ b
        → filter p (filter q (x ∷ xs)) ≡ filter (λ y. q y && p y) (x ∷ xs)
    first rest true is = rw is (ap (λ (l : List X). cond (p x) (x ∷ l) l) rest)
    first rest false is = rw is rest

-- whether a name is none of these
abbrev is_other : List (List ℕ) → List ℕ → Bool
is_other names m = not (list_any (bytes_eq m) names)

-- one of these is left out anyway
same_others : (names : List (List ℕ)) (n : List ℕ) → list_any (bytes_eq n) names ≡ true
    → (m : List ℕ) → (not (bytes_eq m n) && is_other names m) ≡ is_other names m
same_others names n known m = first (bytes_eq m n) refl
  where
    first : (b : Bool) → bytes_eq m n ≡ b → (not (bytes_eq m n) && is_other names m) ≡ is_other names m
    first false other = rw other refl
    first true same =
        let is : m ≡ n = (bytes_eq-Decides m n).0 same in
        let among : list_any (bytes_eq m) names ≡ true =
        ap (λ (k : List ℕ). list_any (bytes_eq k) names) is ∙ known in
        rw (same, among) refl

-- with one more name, that one is left out as well
more_others : (names : List (List ℕ)) (n m : List ℕ)
    → (not (bytes_eq m n) && is_other names m) ≡ is_other (names ++ n ∷ []) m
more_others names n m = by_case (bytes_eq m n) (list_any (bytes_eq m) names)
    ∙ ap not (sym (list_any-append (bytes_eq m) names (n ∷ [])))
  where
    by_case : (b a : Bool) → (not b && not a) ≡ not (a || (b || false))
    by_case true true = refl
    by_case true false = refl
    by_case false true = refl
    by_case false false = refl

-- what is gathered: the names that there were, and then each other one once
pub gathered : (names more : List (List ℕ))
    → with_names names more ≡ names ++ filter (is_other names) (each_once more)
unfolding each_once
gathered names [] = sym (append-nil names)
gathered names (n ∷ ns) = first (λ those. gathered those ns) (list_any (bytes_eq n) names) refl
  where
    others : filter (is_other names) (filter (λ m. not (bytes_eq m n)) (each_once ns))
        ≡ filter (λ m. not (bytes_eq m n) && is_other names m) (each_once ns)
    others = filter_twice (is_other names) (λ m. not (bytes_eq m n)) (each_once ns)

    first : ((those : List (List ℕ)) → with_names those ns ≡ those ++ filter (is_other those) (each_once ns))
        → (b : Bool) → list_any (bytes_eq n) names ≡ b
        → with_names names (n ∷ ns)
        ≡ names ++ filter (is_other names) (n ∷ filter (λ m. not (bytes_eq m n)) (each_once ns))
    first others_of true known = rw known
        (others_of names
        ∙ ap (λ (l : List (List ℕ)). names ++ l) (sym (others ∙ ap
        (λ (p : List ℕ → Bool). filter p (each_once ns)) (λ i m. same_others names n known m i))))
    first others_of false new = rw new
        (others_of (names ++ n ∷ [])
        ∙ append_assoc names (n ∷ []) (filter (is_other (names ++ n ∷ [])) (each_once ns))
        ∙ ap (λ (l : List (List ℕ)). names ++ n ∷ l) (sym (others
        ∙ ap (λ (p : List ℕ → Bool). filter p (each_once ns)) (λ i m. more_others names n m i))))

filter_none : (ns : List (List ℕ)) → filter (is_other []) ns ≡ ns
filter_none [] = refl
filter_none (n ∷ ns) = ap (λ (l : List (List ℕ)). n ∷ l) (filter_none ns)

-- gathered from none, they are each once
pub once_each : (ns : List (List ℕ)) → with_names [] ns ≡ each_once ns
once_each ns = gathered [] ns ∙ filter_none (each_once ns)

-- a name that is among these isn't added
pub name_known : (items : List (String Global)) (n : List ℕ)
    → list_any (λ m. bytes_eq n (string_bytes m)) items ≡ true
    → map string_bytes items ≡ with_name (map string_bytes items) n
name_known items n among = rw (list_any_map (bytes_eq n) string_bytes items, among) refl

-- another one is
pub name_new : (items : List (String Global)) (s : String Global) (n : List ℕ)
    → list_any (λ m. bytes_eq n (string_bytes m)) items ≡ false
    → string_bytes s ≡ n → map string_bytes (items ++ s ∷ []) ≡ with_name (map string_bytes items) n
name_new items s n among is = rw (list_any_map (bytes_eq n) string_bytes items, among)
    (map_push string_bytes items s ∙ ap (λ (m : List ℕ). map string_bytes items ++ m ∷ []) is)
