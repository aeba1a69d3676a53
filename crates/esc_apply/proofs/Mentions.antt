-- What a deposit says, as a list of changes: its contents, and then the deletes that have none.
use Rattle.std.proofs.Common.{◌≡◌, ◌+◌, Bool, true, false, cond, ◌&&◌, ◌||◌, not, true≢false}
use Rattle.std.proofs.Common.{List, [], ◌∷◌, ◌++◌, map, length, Option, Some, None, is_some, refl, sym}
use Rattle.std.proofs.Common.{ap, subst, ◌∙◌, arith, length-append}
use Rattle.std.proofs.lemmas.List.{length-map}
use Rattle.std.proofs.lemmas.List.Folds.{list_any-append}
use Rattle.std.specs.List.{IsDistinct, AllByRecursion, list_any}
use Rattle.std.specs.Map.{lookup, keys_of}
use Rattle.std.specs.FinSet as set
use Rattle.std.proofs.lemmas.Map.Keys.{IsDistinct-head, IsDistinct-tail, IsDistinct-cons}
use Rattle.esc_tables.specs.KeyName.{KeyName, key_cmp, key_eq}
use Rattle.esc_tables.specs.ObjectValue.{ObjectValue}
use Rattle.esc_tables.specs.DepositValue.{DepositValue}
use Rattle.esc_apply.specs.Tables.{deletes_of, mentioned, mentions, says, mention_count}
use Rattle.esc_apply.specs.Changes.{Change, with_object, without}
use Rattle.esc_tables.specs.KeyLaws.{keys_total, keys_exact, key_itself}
use Rattle.esc_apply.proofs.KeyLemmas.{Keys, one, two, keys}
use Rattle.esc_apply.proofs.Runs.{AreChangesOf}

-- what shall be at a key, if a change is of it
abbrev Said : Type 0
Said = Option (Option ObjectValue)

-- ---- keys that are found
abbrev pub Found : {X : Type 0} → KeyName → List (KeyName × X) → Bool
Found k es = is_some (lookup (key_eq k) es)

found_key : {X : Type 0} (k : KeyName) (es : List (KeyName × X)) → Found k es ≡ list_any (key_eq k) (keys_of es)
found_key k [] = refl
found_key k (e ∷ es) = by_test (key_eq k e.0) (found_key k es)
  where
    by_test : (b : Bool) → Found k es ≡ list_any (key_eq k) (keys_of es)
        → is_some (cond b (Some e.1) (lookup (key_eq k) es)) ≡ (b || list_any (key_eq k) (keys_of es))
    by_test true known = refl
    by_test false known = known

-- ---- the deletes without a content, key by key
-- a delete that has a content changes nothing
pub skip_delete : {X : Type 0} (es : List (KeyName × X)) (ks : List KeyName) (k q : KeyName) (b : Bool)
    → b ≡ (list_any (key_eq q) ks && not (Found q es))
    → Found k es ≡ true → b ≡ (list_any (key_eq q) (ks ++ k ∷ []) && not (Found q es))
skip_delete es ks k q b known found = known ∙ by_keys (keys q k)
    ∙ ap (λ a. a && not (Found q es)) (sym (list_any-append (key_eq q) ks (k ∷ [])))
  where
    no_more : (a : Bool) → a ≡ (a || (false || false))
    no_more true = refl
    no_more false = refl

    none : (a c : Bool) → (a && not true) ≡ (c && not true)
    none true true = refl
    none true false = refl
    none false true = refl
    none false false = refl

    by_keys : Keys q k → (list_any (key_eq q) ks && not (Found q es))
        ≡ ((list_any (key_eq q) ks || (key_eq q k || false)) && not (Found q es))
    by_keys (one is) = let there : Found q es ≡ true =
        subst (λ (x : KeyName). Found x es ≡ true) (sym is) found in rw there (none _ _)
    by_keys (two here there) = rw here (ap (λ a. a && not (Found q es)) (no_more _))

-- a delete that has none is one more
pub add_delete : {X : Type 0} (es : List (KeyName × X)) (ks : List KeyName) (k q : KeyName) (b : Bool)
    → b ≡ (list_any (key_eq q) ks && not (Found q es)) → Found k es ≡ false
    → cond (key_eq k q) true b ≡ (list_any (key_eq q) (ks ++ k ∷ []) && not (Found q es))
add_delete es ks k q b known found =
    by_keys (keys q k) ∙ ap (λ a. a && not (Found q es)) (sym (list_any-append (key_eq q) ks (k ∷ [])))
  where
    no_more : (a : Bool) → a ≡ (a || (false || false))
    no_more true = refl
    no_more false = refl

    one_more : (a : Bool) → true ≡ ((a || (true || false)) && not false)
    one_more true = refl
    one_more false = refl

    by_keys : Keys q k → cond (key_eq k q) true b
        ≡ ((list_any (key_eq q) ks || (key_eq q k || false)) && not (Found q es))
    by_keys (one is) =
        let none : Found q es ≡ false = subst (λ (x : KeyName). Found x es ≡ false) (sym is) found in
        let there : key_eq k q ≡ true = subst (λ (x : KeyName). key_eq k x ≡ true) (sym is) (key_itself k) in
        let here : key_eq q k ≡ true = subst (λ (x : KeyName). key_eq x k ≡ true) (sym is) (key_itself k) in
        rw (none, there, here) (one_more _)
    by_keys (two here there) = rw (here, there) (known ∙ ap (λ a. a && not (Found q es)) (no_more _))

-- ---- how many keys a deposit mentions
len-once : (ks : List KeyName) → IsDistinct key_eq ks → set.len (set.from_list {R = key_cmp} ks) ≡ length ks
len-once [] once = set.len-empty key_cmp
len-once (k ∷ ks) once =
    let none : set.contains (set.from_list {R = key_cmp} ks) k ≡ false =
    set.contains-from_list keys_total ks k ∙ none_of ks (IsDistinct-head key_eq k ks once) in
    set.len-insert keys_total (set.from_list ks) k
    ∙ rw none (omega (arith, len-once ks (IsDistinct-tail key_eq k ks once)))
  where
    none_of : (ls : List KeyName)
        → AllByRecursion (λ y. key_eq k y ≡ false) ls → list_any (key_eq k) ls ≡ false
    none_of [] all = refl
    none_of (l ∷ ls) all = rw all.0 (none_of ls all.1)

-- there are as many keys as entries
pub length-keys : {X : Type 0} (es : List (KeyName × X)) → length (keys_of es) ≡ length es
length-keys [] = refl
length-keys (e ∷ es) = omega (arith, length-keys es)

-- entries of just the keys that a deposit mentions, each once, are as many as it mentions
pub count_mentions : {X : Type 0} (d : DepositValue) (es : List (KeyName × X)) → IsDistinct
    key_eq (keys_of es) → ((q : KeyName) → Found q es ≡ mentions q d) → length es ≡ mention_count d
count_mentions d es once each = sym (length-keys es)
    ∙ sym (len-once (keys_of es) once) ∙ ap set.len (set.same_set keys_total keys_exact _ _ (λ q.
    set.contains-from_list keys_total (keys_of es) q
    ∙ sym (found_key q es) ∙ each q ∙ sym (set.contains-from_list keys_total (mentioned d) q)))

-- ---- the changes of a deposit
abbrev pub changes_of : DepositValue → List KeyName → List Change
changes_of d plain = map with_object d.contents ++ map without plain

keys-without : (ks : List KeyName) → keys_of (map without ks) ≡ ks
keys-without [] = refl
keys-without (k ∷ ks) = ap (λ (l : List KeyName). k ∷ l) (keys-without ks)

differ : (k : KeyName) (ks : List KeyName)
    → list_any (key_eq k) ks ≡ false → AllByRecursion (λ y. key_eq k y ≡ false) ks
differ k [] none = tt
differ k (x ∷ ks) none = split (key_eq k x) (list_any (key_eq k) ks) refl refl none (differ k ks)
  where
    split : (a b : Bool) → key_eq k x ≡ a → list_any (key_eq k) ks ≡ b → (a || b) ≡ false
        → (list_any (key_eq k) ks ≡ false → AllByRecursion (λ y. key_eq k y ≡ false) ks)
        → (key_eq k x ≡ false) × AllByRecursion (λ y. key_eq k y ≡ false) ks
    split true b p q e rest = absurd (true≢false e)
    split false b p q e rest = (p, rest (q ∙ e))

all-append : (P : KeyName → Type 0) (ks ls : List KeyName)
    → AllByRecursion P ks → AllByRecursion P ls → AllByRecursion P (ks ++ ls)
all-append P [] ls a b = b
all-append P (k ∷ ks) ls a b = (a.0, all-append P ks ls a.1 b)

lookup-without : (q : KeyName) (ks : List KeyName)
    → lookup (key_eq q) (map without ks) ≡ cond {A = Said} (list_any (key_eq q) ks) (Some None) None
lookup-without q [] = refl
lookup-without q (k ∷ ks) = by_test (key_eq q k) (lookup-without q ks)
  where
    by_test : (b : Bool) → lookup (key_eq q) (map without ks)
        ≡ cond {A = Said} (list_any (key_eq q) ks) (Some None) None → cond {A = Said} b (Some None)
        (lookup (key_eq q) (map without ks)) ≡ cond (b || list_any (key_eq q) ks) (Some None) None
    by_test true known = refl
    by_test false known = known

module _ (plain : List KeyName) (once_plain : IsDistinct key_eq plain) where
  keys-joined : (es : List (KeyName × ObjectValue))
      → keys_of (map with_object es ++ map without plain) ≡ keys_of es ++ plain
  keys-joined [] = keys-without plain
  keys-joined (e ∷ es) = ap (λ (l : List KeyName). e.0 ∷ l) (keys-joined es)

  once-joined : (es : List (KeyName × ObjectValue)) → IsDistinct key_eq (keys_of es) → ((q : KeyName)
      → Found q es ≡ true → list_any (key_eq q) plain ≡ false) → IsDistinct key_eq (keys_of es ++ plain)
  once-joined [] once misses = once_plain
  once-joined (e ∷ es) once misses =
      IsDistinct-cons key_eq e.0 (keys_of es ++ plain)
      (all-append (λ y. key_eq e.0 y ≡ false) (keys_of es) plain
      (IsDistinct-head key_eq e.0 (keys_of es) once) (differ e.0 plain (misses e.0 (here e.0))))
      (once-joined es (IsDistinct-tail key_eq e.0 (keys_of es) once) (λ q found. misses q (later q found)))
    where
      here : (q : KeyName) → is_some (cond (key_eq q q) (Some e.1) (lookup (key_eq q) es)) ≡ true
      here q = rw (key_itself q) refl

      later : (q : KeyName) → Found q es ≡ true
          → is_some (cond (key_eq q e.0) (Some e.1) (lookup (key_eq q) es)) ≡ true
      later q found = by_test (key_eq q e.0)
        where
          by_test : (b : Bool) → is_some (cond b (Some e.1) (lookup (key_eq q) es)) ≡ true
          by_test true = refl
          by_test false = found

  lookup-joined : (es : List (KeyName × ObjectValue)) (q : KeyName)
      → lookup (key_eq q) (map with_object es ++ map without plain) ≡ cond (Found q es)
      (Some (lookup (key_eq q) es)) (cond (list_any (key_eq q) plain) (Some None) None)
  lookup-joined [] q = lookup-without q plain
  lookup-joined (e ∷ es) q = by_test (key_eq q e.0) (lookup-joined es q)
    where
      by_test : (b : Bool) → lookup (key_eq q) (map with_object es ++ map without plain)
          ≡ cond (Found q es) (Some (lookup (key_eq q) es))
          (cond (list_any (key_eq q) plain) (Some None) None) → cond {A = Said} b (Some (Some e.1))
          (lookup (key_eq q) (map with_object es ++ map without plain)) ≡ cond (is_some
          (cond b (Some e.1) (lookup (key_eq q) es))) (Some (cond b (Some e.1) (lookup (key_eq q) es)))
          (cond (list_any (key_eq q) plain) (Some None) None)
      by_test true known = refl
      by_test false known = known

-- contents and the deletes beside them are the deposit's changes
pub are_changes : (d : DepositValue) (plain : List KeyName) → IsDistinct key_eq (keys_of d.contents)
    → IsDistinct key_eq plain → ((q : KeyName) → list_any (key_eq q) plain ≡ (list_any (key_eq q)
    (deletes_of d) && not (Found q d.contents))) → AreChangesOf d (changes_of d plain)
are_changes d plain once once_plain deleted =
    record {
      once = once_all;
      each = each;
      count = count_mentions
          d (changes_of d plain) once_all (λ q. ap is_some (each q) ∙ is_there (mentions q d) (says q d));
    }
  where
    off : (a b : Bool) → b ≡ true → (a && not b) ≡ false
    off true b e = ap not e
    off false b e = refl

    once_all : IsDistinct key_eq (keys_of (changes_of d plain))
    once_all = subst (IsDistinct key_eq) (sym (keys-joined plain once_plain d.contents))
        (once-joined plain once_plain d.contents once (λ q found. deleted q ∙ off _ _ found))

    is_there : (b : Bool) (o : Option ObjectValue) → is_some (cond {A = Said} b (Some o) None) ≡ b
    is_there true o = refl
    is_there false o = refl

    by_found : (a : Bool) (o : Option ObjectValue) → cond {A = Said} (is_some o)
        (Some o) (cond (a && not (is_some o)) (Some None) None) ≡ cond (a || is_some o) (Some o) None
    by_found true None = refl
    by_found false None = refl
    by_found true (Some x) = refl
    by_found false (Some x) = refl

    each : (q : KeyName) → lookup (key_eq q) (changes_of d plain) ≡ cond (mentions q d) (Some (says q d)) None
    each q =
        lookup-joined plain once_plain d.contents q
        ∙ ap (λ b. cond {A = Said} (Found q d.contents)
        (Some (lookup (key_eq q) d.contents)) (cond b (Some None) None)) (deleted q)
        ∙ by_found (list_any (key_eq q) (deletes_of d)) (lookup (key_eq q) d.contents)
        ∙ ap (λ b. cond {A = Said} (list_any (key_eq q) (deletes_of d) || b) (Some (says q d)) None)
        (found_key q d.contents)
        ∙ ap (λ b. cond {A = Said} b (Some (says q d)) None)
        (sym (list_any-append (key_eq q) (deletes_of d) (keys_of d.contents)))

-- the changes of a deposit, from its parts as the code has them
pub changes_made : (d : DepositValue)
    (contents : List (KeyName × ObjectValue)) (deletes plain : List KeyName) → contents ≡ d.contents
    → deletes ≡ deletes_of d → IsDistinct key_eq (keys_of contents) → IsDistinct key_eq plain
    → ((q : KeyName) → list_any (key_eq q) plain ≡ (list_any (key_eq q) deletes
    && not (Found q contents))) → AreChangesOf d (map with_object contents ++ map without plain)
changes_made d contents deletes plain same_contents same_deletes once once_plain each =
    subst (λ (es : List (KeyName × ObjectValue)). AreChangesOf
    d (map with_object es ++ map without plain)) (sym same_contents)
    (are_changes d plain (subst (λ (es : List (KeyName × ObjectValue)). IsDistinct key_eq (keys_of es))
    same_contents once) once_plain (λ q.
    each q
    ∙ ap (λ (ks : List KeyName). list_any (key_eq q) ks && not (Found q contents)) same_deletes
    ∙ ap (λ (es : List (KeyName × ObjectValue)). list_any (key_eq q)
    (deletes_of d) && not (Found q es)) same_contents))

-- how many they are
pub changes_counted : (d : DepositValue) (contents : List (KeyName × ObjectValue))
    (plain : List KeyName) → AreChangesOf d (map with_object contents ++ map without plain)
    → length contents + length plain ≡ mention_count d
changes_counted d contents plain are = omega (
  arith,
  are.count,
  length-append (map with_object contents)
      (map without plain),
  length-map contents with_object,
  length-map plain without,
)
