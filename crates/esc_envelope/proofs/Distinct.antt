-- Texts that occur once.
use Rattle.esc_bundle.specs.ListLaws.{list_any_map}
use Rattle.std.proofs.Common.{◌≡◌, ℕ, ◌+◌, ◌-◌, ◌<◌, ◌≤◌, Bool, true, false, cond, List, []}
use Rattle.std.proofs.Common.{◌∷◌, ◌++◌, length, drop, take, map, get_or, refl, sym, ap, ◌∙◌, inl}
use Rattle.std.proofs.Common.{inr, Bor}
use Rattle.std.specs.Prelude.{not, ◌||◌, position}
use Rattle.std.specs.BTreeSet.{BTreeSet, contains, Updates}
use Rattle.std.specs.Cmp.Lexicographic.{slice_cmp}
use Rattle.std.specs.List.{list_any, prefix_len}
use Rattle.std.specs.Ordering.{nat_cmp}
use Rattle.std.specs.Str.{bytes_eq}
use Rattle.std.specs.declared.cmp.Ordering.{Ordering}
use Rattle.std.proofs.lemmas.Bool.{or_cases, or_parts, and_parts, not-true}
use Rattle.std.proofs.lemmas.List.{drop_more, drop_all, take_rest, take_more, take-append-drop, map-append, length-map}
use Rattle.std.proofs.lemmas.List.Folds.{list_any-append}
use Rattle.std.proofs.lemmas.Map.Text.{is_eq-slice_cmp}
use Rattle.std.proofs.lemmas.Slice.Eq.{bytes_eq-Decides}
use Rattle.std.proofs.Math.Bool.{or-false, or-true, or_assoc, and-false}
use Rattle.std.proofs.lemmas.Cmp.{nat_list_eq_equiv}
use Rattle.esc_envelope.specs.DeclaredTables.{is_text_among, are_distinct, text_index}

-- a text among values is one among their texts
pub among_map : {A : Type 0} (v : A → List ℕ) (text : List ℕ) (xs : List A)
    → list_any (λ x. bytes_eq (v x) text) xs ≡ is_text_among text (map v xs)
among_map v text xs = sym (list_any_map (λ other. bytes_eq other text) v xs)

-- what is known before element i: those before it occur once
pub one_more : {A : Type 0} (v : A → List ℕ) (xs : List A) (i : ℕ) (d : A) (all : Bool)
    → i < length xs → list_any (λ x. bytes_eq (v x) (v (get_or xs i d)))
    (take (length xs - (i + 1)) (drop (i + 1) xs)) ≡ false
    → are_distinct (map v (drop i xs)) ≡ all → are_distinct (map v (drop (i + 1) xs)) ≡ all
unfolding are_distinct
one_more v xs i d all inside new known =
    let here : are_distinct (map v (drop i xs))
    ≡ are_distinct (map v (get_or xs i d ∷ drop (i + 1) xs)) =
    ap (λ (l : List _). are_distinct (map v l)) (drop_more xs i d inside) in
    let other : is_text_among (v (get_or xs i d)) (map v (drop (i + 1) xs)) ≡ false =
    sym (among_map v (v (get_or xs i d)) (drop (i + 1) xs))
    ∙ ap (list_any (λ x. bytes_eq (v x) (v (get_or xs i d)))) (sym (take_rest xs (i + 1))) ∙ new in
    let same : are_distinct (map v (get_or xs i d ∷ drop (i + 1) xs))
    ≡ are_distinct (map v (drop (i + 1) xs)) = rw other refl in
    sym same ∙ sym here ∙ known

-- a text that comes again makes the list repeat
pub repeated : {A : Type 0} (v : A → List ℕ) (xs : List A) (i : ℕ) (d : A) (all : Bool)
    → i < length xs → list_any (λ x. bytes_eq (v x) (v (get_or xs i d)))
    (take (length xs - (i + 1)) (drop (i + 1) xs)) ≡ true
    → are_distinct (map v (drop i xs)) ≡ all → false ≡ all
unfolding are_distinct
repeated v xs i d all inside again known =
    let here : are_distinct (map v (drop i xs))
    ≡ are_distinct (map v (get_or xs i d ∷ drop (i + 1) xs)) =
    ap (λ (l : List _). are_distinct (map v l)) (drop_more xs i d inside) in
    let other : is_text_among (v (get_or xs i d)) (map v (drop (i + 1) xs)) ≡ true =
    sym (among_map v (v (get_or xs i d)) (drop (i + 1) xs)) ∙ ap
    (list_any (λ x. bytes_eq (v x) (v (get_or xs i d)))) (sym (take_rest xs (i + 1))) ∙ again in
    let same : are_distinct (map v (get_or xs i d ∷ drop (i + 1) xs)) ≡ false = rw other refl in
    sym same ∙ sym here ∙ known

-- at the end no text came again
pub all_once : {A : Type 0} (v : A → List ℕ) (xs : List A) (i : ℕ) (all : Bool)
    → length xs ≤ i → are_distinct (map v (drop i xs)) ≡ all → true ≡ all
unfolding are_distinct
all_once v xs i all past known = sym (ap (λ (l : List _). are_distinct (map v l)) (drop_all i xs past)) ∙ known

place_len : {A : Type 0} (v : A → List ℕ) (text : List ℕ) (xs : List A) → prefix_len
    (λ x. not (bytes_eq (v x) text)) xs ≡ prefix_len (λ other. not (bytes_eq other text)) (map v xs)
place_len v text [] = refl
place_len v text (x ∷ xs) = ap (λ (n : ℕ). cond (not (bytes_eq (v x) text)) (1 + n) 0) (place_len v text xs)

-- the place of a text, seen through v
pub place_map : {A : Type 0} (v : A → List ℕ) (text : List ℕ) (xs : List A)
    → position (λ x. bytes_eq (v x) text) xs ≡ text_index (map v xs) text
place_map v text xs = rw (place_len v text xs, length-map xs v) refl

-- ---- texts seen so far

joined : (a b : Bool) → cond a true b ≡ (b || a)
joined true true = refl
joined true false = refl
joined false true = refl
joined false false = refl

among_push : (text x : List ℕ) (xs : List (List ℕ))
    → is_text_among text (xs ++ (x ∷ [])) ≡ (is_text_among text xs || bytes_eq x text)
among_push text x [] = or-false (bytes_eq x text)
among_push text x (y ∷ ys) = ap (λ (b : Bool). bytes_eq y text || b) (among_push text x ys)
    ∙ sym (or_assoc (bytes_eq y text) (is_text_among text ys) (bytes_eq x text))

still_distinct : (xs : List (List ℕ)) (x : List ℕ)
    → are_distinct xs ≡ true → is_text_among x xs ≡ false → are_distinct (xs ++ (x ∷ [])) ≡ true
unfolding are_distinct
still_distinct [] x once new = refl
still_distinct (y ∷ ys) x once new =
    let apart = or_parts (bytes_eq y x) (is_text_among x ys) new in
    let here = and_parts (not (is_text_among y ys)) (are_distinct ys) once in
    let none : is_text_among y ys ≡ false = not-true (is_text_among y ys) here.0 in
    let first : is_text_among y (ys ++ (x ∷ [])) ≡ false =
    among_push y x ys ∙ rw (none, nat_list_eq_equiv.symm x y, apart.0) refl in
    rw first (still_distinct ys x here.1 apart.1)

-- a text that was there already makes the list repeat
pub never_distinct : (xs : List (List ℕ)) (x : List ℕ) (rest : List (List ℕ))
    → is_text_among x xs ≡ true → are_distinct (xs ++ (x ∷ rest)) ≡ false
unfolding are_distinct
never_distinct [] x rest again = absurd cc
never_distinct (y ∷ ys) x rest again =
    elim (or_cases (bytes_eq y x) (is_text_among x ys) again) [
      | inl same ↦
          let e = (bytes_eq-Decides y x).0 same in
          let twice : is_text_among y (ys ++ (x ∷ rest)) ≡ true =
          list_any-append (λ other. bytes_eq other y) ys (x ∷ rest)
          ∙ ap (λ (b : Bool). is_text_among y ys || (b || is_text_among y rest))
          ((bytes_eq-Decides x y).1 (sym e)) ∙ or-true (is_text_among y ys) in
          rw twice refl
      | inr later ↦ rw (never_distinct ys x rest later) (and-false (not (is_text_among y (ys ++ (x ∷ rest)))))
    ]

-- the order of a set of texts
abbrev pub text_order : Bor (List ℕ) → Bor (List ℕ) → Ordering
text_order x y = slice_cmp nat_cmp x.now y.now

-- what is known before element i: those before it occur once, and the set has them
pub record AreSeen {A : Type 0} (v : A → List ℕ)
    (xs : List A) (i : ℕ) (s : BTreeSet (Bor (List ℕ))) : Type 0 where
  pub once : are_distinct (map v (take i xs)) ≡ true
  pub has : (q : Bor (List ℕ)) → contains text_order s q ≡ is_text_among q.now (map v (take i xs))

-- at the start nothing was seen
pub none_seen : {A : Type 0} (v : A → List ℕ) (xs : List A) (s : BTreeSet (Bor (List ℕ)))
    → s.keys ≡ [] → AreSeen v xs 0 s
unfolding are_distinct
none_seen v xs s empty = record { once = refl; has = λ q. rw empty refl }

grown : {A : Type 0} (v : A → List ℕ) (xs : List A) (i : ℕ) (d : A)
    → i < length xs → map v (take (i + 1) xs) ≡ map v (take i xs) ++ (v (get_or xs i d) ∷ [])
grown v xs i d inside = ap (map v) (take_more xs i d inside) ∙ map-append v (take i xs) (get_or xs i d ∷ [])

-- one more text was seen
pub one_seen : {A : Type 0} (v : A → List ℕ) (xs : List A) (i : ℕ) (d : A)
    (key : Bor (List ℕ)) (s n : BTreeSet (Bor (List ℕ))) → i < length xs → key.now ≡ v (get_or xs i d)
    → contains text_order s key ≡ false
    → Updates text_order s n key true → AreSeen v xs i s → AreSeen v xs (i + 1) n
one_seen v xs i d key s n inside is new updates known =
    let front = map v (take i xs) in
    let fresh : is_text_among (v (get_or xs i d)) front ≡ false =
    ap (λ (t : List ℕ). is_text_among t front) (sym is) ∙ sym (known.has key) ∙ new in
    let more = grown v xs i d inside in
    record {
      once = rw more (still_distinct front (v (get_or xs i d)) known.once fresh);
      has = λ q. updates.0 q ∙ rw (known.has q, is_eq-slice_cmp key.now q.now, is)
          (joined (bytes_eq (v (get_or xs i d)) q.now) (is_text_among q.now front))
          ∙ sym (among_push q.now (v (get_or xs i d)) front) ∙ ap (is_text_among q.now) (sym more);
    }

-- a text that was seen before makes the list repeat
pub seen_twice : {A : Type 0} (v : A → List ℕ) (xs : List A) (i : ℕ) (d : A)
    (key : Bor (List ℕ)) (s : BTreeSet (Bor (List ℕ))) → i < length xs → key.now ≡ v (get_or xs i d)
    → contains text_order s key ≡ true → AreSeen v xs i s → are_distinct (map v xs) ≡ false
seen_twice v xs i d key s inside is there known =
    let front = map v (take i xs) in
    let again : is_text_among (v (get_or xs i d)) front ≡ true =
    ap (λ (t : List ℕ). is_text_among t front) (sym is) ∙ sym (known.has key) ∙ there in
    let cut : xs ≡ take i xs ++ (get_or xs i d ∷ drop (i + 1) xs) =
    sym (take-append-drop i xs) ∙ ap (λ (l : List _). take i xs ++ l) (drop_more xs i d inside) in
    let whole : map v xs ≡ front ++ (v (get_or xs i d) ∷ map v (drop (i + 1) xs)) =
    ap (map v) cut ∙ map-append v (take i xs) (get_or xs i d ∷ drop (i + 1) xs) in
    ap are_distinct whole ∙ never_distinct front (v (get_or xs i d)) (map v (drop (i + 1) xs)) again
