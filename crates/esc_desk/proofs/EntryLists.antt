-- Entries by key, each key once: what look-ups say of them.
use Rattle.std.proofs.Common.{◌≡◌, ◌⊎◌, inl, inr, Bool, true, false, cond, List, [], ◌∷◌, ◌++◌}
use Rattle.std.proofs.Common.{filter, Option, Some, None, refl, sym, ap, ap₂, subst, ◌∙◌, Ordering}
use Rattle.std.proofs.Common.{Less, Equal, Greater}
use Rattle.std.specs.List.{AllByRecursion}
use Rattle.std.specs.List.Sorted.{IsStrictlySortedBy}
use Rattle.std.specs.Map.{lookup, keys_of}
use Rattle.std.specs.Option.{option_or, is_some}
use Rattle.std.specs.Ordering.{ordering_reverse}
use Rattle.std.proofs.lemmas.Bool.{cases_Bool}
use Rattle.std.proofs.lemmas.List.Elements.{All-from_recursion, recursion_from_All, All-filter, filter_passes}
use Rattle.esc_tables.specs.KeyName.{KeyName, key_cmp, key_eq}
use Rattle.esc_tables.specs.ObjectValue.{ObjectValue}
use Rattle.esc_apply.specs.ObjectStreams.{Entry, InOrder}
use Rattle.esc_tables.specs.KeyLaws.{keys_total, keys_exact, key_itself, one_key as same_key}

weaker : {X : Type 0} (P Q : X → Type 0)
    → ((x : X) → P x → Q x) → (xs : List X) → AllByRecursion P xs → AllByRecursion Q xs
weaker P Q f [] all = tt
weaker P Q f (x ∷ xs) all = (f x all.0, weaker P Q f xs all.1)

-- ---- order

-- the keys of the entries are above this one
abbrev pub AreAbove : KeyName → List Entry → Type 0
AreAbove k es = AllByRecursion (λ (f : Entry). key_cmp k f.0 ≡ Less) es

-- each entry passes a test
abbrev pub Pass : (Entry → Bool) → List Entry → Type 0
Pass p es = AllByRecursion (λ (e : Entry). p e ≡ true) es

-- what passes a test passes a weaker one
pub pass_too : (p q : Entry → Bool)
    → ((e : Entry) → p e ≡ true → q e ≡ true) → (es : List Entry) → Pass p es → Pass q es
pass_too p q f es all = weaker (λ (e : Entry). p e ≡ true) (λ (e : Entry). q e ≡ true) f es all

-- each key is below those after it
abbrev pub Rises : List Entry → Type 0
Rises [] = Unit {0}
Rises (e ∷ es) = AreAbove e.0 es × Rises es

mapped : (P : KeyName → Type 0) (es : List Entry)
    → AllByRecursion (λ (f : Entry). P f.0) es → AllByRecursion P (keys_of es)
mapped P [] all = tt
mapped P (e ∷ es) all = (all.0, mapped P es all.1)

unmapped : (P : KeyName → Type 0) (es : List Entry)
    → AllByRecursion P (keys_of es) → AllByRecursion (λ (f : Entry). P f.0) es
unmapped P [] all = tt
unmapped P (e ∷ es) all = (all.0, unmapped P es all.1)

-- entries that rise are in order
pub in_order : (es : List Entry) → Rises es → InOrder es
unfolding IsStrictlySortedBy
in_order [] up = tt
in_order (e ∷ es) up = (mapped (λ k. key_cmp e.0 k ≡ Less) es up.0, in_order es up.1)

-- entries in order rise
pub rises : (es : List Entry) → InOrder es → Rises es
unfolding IsStrictlySortedBy
rises [] up = tt
rises (e ∷ es) up = (unmapped (λ k. key_cmp e.0 k ≡ Less) es up.0, rises es up.1)

above-filter : (k : KeyName) (p : Entry → Bool) (es : List Entry) → AreAbove k es → AreAbove k (filter p es)
above-filter k p es above =
    recursion_from_All (λ (f : Entry). key_cmp k f.0 ≡ Less) (filter p es)
    (All-filter p (λ (f : Entry). key_cmp k f.0 ≡ Less)
    es (All-from_recursion (λ (f : Entry). key_cmp k f.0 ≡ Less) es above))

-- entries that pass a test still rise
pub rises-filter : (p : Entry → Bool) (es : List Entry) → Rises es → Rises (filter p es)
rises-filter p [] up = tt
rises-filter p (e ∷ es) up =
    elim (p e) as (λ b. Rises (cond b (e ∷ filter p es) (filter p es))) [
      | true ↦ (above-filter e.0 p es up.0, rises-filter p es up.1)
      | false ↦ rises-filter p es up.1
    ]

-- what a filter leaves passed its test
pub all_passed : (p : Entry → Bool) (es : List Entry) → Pass p (filter p es)
all_passed p es = recursion_from_All (λ (e : Entry). p e ≡ true) (filter p es) (filter_passes p es)

above-append : (k : KeyName) (xs ys : List Entry) → AreAbove k xs → AreAbove k ys → AreAbove k (xs ++ ys)
above-append k [] ys above then = then
above-append k (a ∷ xs) ys above then = (above.0, above-append k xs ys above.1 then)

-- entries and then others that come after each of them
pub rises-append : (p q : Entry → Bool)
    → ((a b : Entry) → p a ≡ true → q b ≡ true → key_cmp a.0 b.0 ≡ Less) → (xs ys : List Entry)
    → Rises xs → Rises ys → Pass p xs → Pass q ys → Rises (xs ++ ys)
rises-append p q below [] ys up then ps qs = then
rises-append p q below (a ∷ xs) ys up then ps qs =
    let behind : AreAbove a.0 ys = weaker (λ (f : Entry). q f ≡ true)
    (λ (f : Entry). key_cmp a.0 f.0 ≡ Less) (λ f passes. below a f ps.0 passes) ys qs in
    (above-append a.0 xs ys up.0 behind, rises-append p q below xs ys up.1 then ps.1 qs)

-- ---- look-ups

-- a key is looked up in one list, and then in another
pub lookup-append : (q : KeyName) (xs ys : List Entry)
    → lookup (key_eq q) (xs ++ ys) ≡ option_or (lookup (key_eq q) xs) (lookup (key_eq q) ys)
lookup-append q [] ys = refl
lookup-append q (a ∷ xs) ys = elim (cases_Bool (key_eq q a.0))
    [ inl is ↦ rw is refl | inr other ↦ rw other (lookup-append q xs ys) ]

-- whether an entry is what its key gives
abbrev pub is_found : List Entry → Entry → Bool
is_found es e = is_some (lookup (key_eq e.0) es)

-- each entry is found under its key
pub each_found : (es : List Entry) → Pass (is_found es) es
each_found [] = tt
each_found (e ∷ es) =
    let first : is_found (e ∷ es) e ≡ true = rw (key_itself e.0) refl in
    let rest = pass_too (is_found es)
    (is_found (e ∷ es)) (λ f found. still (key_eq f.0 e.0) _ found) es (each_found es) in
    (first, rest)
  where
    still : (b : Bool) (o : Option ObjectValue) → is_some o ≡ true → is_some (cond b (Some e.1) o) ≡ true
    still true o found = refl
    still false o found = found

turned : (a b : KeyName) (o : Ordering) → key_cmp a b ≡ o → key_cmp b a ≡ ordering_reverse o
turned a b o e = keys_total.antisymm b a ∙ ap ordering_reverse e

-- nothing is found of a key below all
pub none_above : (q : KeyName) (es : List Entry) → AreAbove q es → lookup (key_eq q) es ≡ None
none_above q [] all = refl
none_above q (e ∷ es) all = rw all.0 (none_above q es all.1)

below_rest : (k q : KeyName) (es : List Entry) → key_cmp k q ≡ Less → AreAbove q es → AreAbove k es
below_rest k q [] low all = tt
below_rest k q (f ∷ es) low all = (keys_total.trans k q f.0 low all.0, below_rest k q es low all.1)

-- what is found at the first key
pub first_found : (e : Entry) (es : List Entry) → lookup (key_eq e.0) (e ∷ es) ≡ Some e.1
first_found e es = rw (key_itself e.0) refl

abbrev SameLookups : List Entry → List Entry → Type 0
SameLookups xs ys = (q : KeyName) → lookup (key_eq q) xs ≡ lookup (key_eq q) ys

-- a key that has nothing is not that of the first entry
pub no_first : (e : Entry) (es : List Entry) (o : Option ObjectValue)
    → o ≡ None → lookup (key_eq e.0) (e ∷ es) ≡ o → ⊥
no_first e es o none is = let never : Some e.1 ≡ None = sym (first_found e es) ∙ is ∙ none in absurd cc

module _ (a b : Entry) (xs ys : List Entry)
    (all : AreAbove a.0 xs) (others : AreAbove b.0 ys) (same : SameLookups (a ∷ xs) (b ∷ ys)) where
  one_key : key_cmp a.0 b.0 ≡ Equal
  one_key = by_order (key_cmp a.0 b.0) refl
    where
      by_order : (o : Ordering) → key_cmp a.0 b.0 ≡ o → key_cmp a.0 b.0 ≡ Equal
      by_order Less low =
          let unfound = none_above a.0 (b ∷ ys) (low, below_rest a.0 b.0 ys low others) in
          absurd (no_first a xs _ unfound (same a.0))
      by_order Equal e = e
      by_order Greater e =
          let low = turned a.0 b.0 Greater e in
          let unfound = none_above b.0 (a ∷ xs) (low, below_rest b.0 a.0 xs low all) in
          absurd (no_first b ys _ unfound (sym (same b.0)))

  one_entry : a ≡ b
  one_entry =
      let keys : a.0 ≡ b.0 = keys_exact a.0 b.0 one_key in
      let found : lookup (key_eq a.0) (b ∷ ys) ≡ Some b.1 =
      subst (λ (k : KeyName). lookup (key_eq k) (b ∷ ys) ≡ Some b.1) (sym keys) (first_found b ys) in
      let values : Some a.1 ≡ Some b.1 = sym (first_found a xs) ∙ same a.0 ∙ found in
      let objects : a.1 ≡ b.1 = cc in
      λ i. (keys i, objects i)

  rest_same : SameLookups xs ys
  rest_same q = by_test (cases_Bool (key_eq q a.0))
    where
      by_test : (key_eq q a.0 ≡ true) ⊎ (key_eq q a.0 ≡ false) → lookup (key_eq q) xs ≡ lookup (key_eq q) ys
      by_test (inl is) =
          let here : q ≡ a.0 = same_key q a.0 is in
          let there : q ≡ b.0 = here ∙ keys_exact a.0 b.0 one_key in
          none_above q xs (subst (λ (k : KeyName). AreAbove k xs) (sym here) all)
          ∙ sym (none_above q ys (subst (λ (k : KeyName). AreAbove k ys) (sym there) others))
      by_test (inr other) =
          let another : key_eq q b.0 ≡ false =
          subst (λ (k : KeyName). key_eq q k ≡ false) (keys_exact a.0 b.0 one_key) other in
          ap (λ t. cond t (Some a.1) (lookup (key_eq q) xs)) (sym other)
          ∙ same q ∙ ap (λ t. cond t (Some b.1) (lookup (key_eq q) ys)) another

-- entries in order that have the same look-ups are the same
pub same_entries : (xs ys : List Entry) → Rises xs → Rises ys → SameLookups xs ys → xs ≡ ys
same_entries [] [] up then same = refl
same_entries [] (b ∷ ys) up then same = absurd (no_first b ys None refl (sym (same b.0)))
same_entries (a ∷ xs) [] up then same = absurd (no_first a xs None refl (same a.0))
same_entries (a ∷ xs) (b ∷ ys) up then same =
    let first : a ≡ b = one_entry a b xs ys up.0 then.0 same in
    let rest : xs ≡ ys = same_entries xs ys up.1 then.1 (rest_same a b xs ys up.0 then.0 same) in
    ap₂ (λ (e : Entry) (es : List Entry). e ∷ es) first rest
