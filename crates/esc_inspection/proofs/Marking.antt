-- Keys of tables, marked one after the other, and what is compared there.
use Rattle.std.proofs.Common.{◌≡◌, ℕ, zero, suc, ◌≤◌, Bool, true, false, ◌||◌, cond, true≢false, List, []}
use Rattle.std.proofs.Common.{◌∷◌, ◌++◌, map, set, get_or, slice_get, length, Option, Some, None, is_some}
use Rattle.std.proofs.Common.{option_map, refl, sym, ap, subst, ◌∙◌, arith}
use Rattle.std.specs.BTreeSet as sorted
use Rattle.std.specs.List.{AllByRecursion, IsDistinct, list_any}
use Rattle.std.specs.Map.{lookup, keys_of}
use Rattle.std.proofs.lemmas.Bool.{or_parts}
use Rattle.std.proofs.lemmas.List.{length-map}
use Rattle.std.proofs.lemmas.List.Folds.{list_any-append}
use Rattle.std.proofs.lemmas.Map.Entries.{lookup_from_place}
use Rattle.std.proofs.lemmas.Map.Keys.{IsDistinct-from_sorted, IsDistinct-head, IsDistinct-tail}
use Rattle.std.proofs.lemmas.Option.{none-some, same_Some, slice_get_within}
use Rattle.esc_tables.specs.KeyName.{KeyName, key_cmp, key_eq}
use Rattle.esc_tables.specs.KeyLaws.{keys_alike, one_key, key_itself}
use Rattle.esc_tables.specs.ObjectValue.{ObjectValue}
use Rattle.esc_apply.specs.ObjectStreams.{Entry, InOrder}
use Rattle.esc_inspection.specs.declared.comparison.Comparison.{Comparison}
use Rattle.esc_inspection.specs.Compared.{AreMarked, Marks}

-- ---- one key more
-- the keys that are marked once a key is, too
abbrev with_key : (KeyName → Bool) → KeyName → KeyName → Bool
with_key marked k q = marked q || list_any (key_eq q) (k ∷ [])

-- another key is marked as before
other_key : (b : Bool) (t : Bool) → t ≡ false → b ≡ (b || (t || false))
other_key true t is = refl
other_key false true is = sym is
other_key false false is = refl

-- the key itself is marked
this_key : (b : Bool) (t : Bool) → t ≡ true → true ≡ (b || (t || false))
this_key true t is = refl
this_key false true is = refl
this_key false false is = sym is

-- entries with other keys are marked as before
others_as_before : (marked : KeyName → Bool) (k : KeyName) (es : List Entry)
    → AllByRecursion (λ y. key_eq y k ≡ false) (keys_of es)
    → map (λ (e : Entry). marked e.0) es ≡ map (λ (e : Entry). with_key marked k e.0) es
others_as_before marked k [] apart = refl
others_as_before marked k (e ∷ es) apart =
    ap (λ b. b ∷ map (λ (x : Entry). marked x.0) es) (other_key (marked e.0) (key_eq e.0 k) apart.0)
    ∙ ap (λ (bs : List Bool). with_key marked k e.0 ∷ bs) (others_as_before marked k es apart.1)

-- what holds of all keys, holds of that of an entry
key_at_place : (P : KeyName → Type 0) (es : List Entry) (i : ℕ) (k : KeyName) (o : ObjectValue)
    → AllByRecursion P (keys_of es) → slice_get es i ≡ Some (k, o) → P k
key_at_place P [] i k o all there = absurd (none-some (k, o) there)
key_at_place P (e ∷ es) zero k o all there = subst P (ap (λ (x : Entry). x.0) (same_Some e (k, o) there)) all.0
key_at_place P (e ∷ es) (suc i) k o all there = key_at_place P es i k o all.1 there

-- the other way round
apart_alike : (k : KeyName) (ks : List KeyName)
    → AllByRecursion (λ y. key_eq k y ≡ false) ks → AllByRecursion (λ y. key_eq y k ≡ false) ks
apart_alike k [] all = tt
apart_alike k (y ∷ ks) all = (keys_alike.symm y k ∙ all.0, apart_alike k ks all.1)

-- an entry's key is marked by its place
marked_at_place : (marked : KeyName → Bool) (es : List Entry) (i : ℕ) (k : KeyName) (o : ObjectValue)
    → IsDistinct key_eq (keys_of es) → slice_get es i ≡ Some (k, o)
    → set (map (λ (e : Entry). marked e.0) es) i true ≡ map (λ (e : Entry). with_key marked k e.0) es
marked_at_place marked [] i k o once there = absurd (none-some (k, o) there)
marked_at_place marked (e ∷ es) zero k o once there =
    let is : e.0 ≡ k = ap (λ (x : Entry). x.0) (same_Some e (k, o) there) in
    let apart : AllByRecursion (λ y. key_eq y k ≡ false) (keys_of es) =
    apart_alike k (keys_of es) (subst (λ (x : KeyName). AllByRecursion (λ y. key_eq x y ≡ false) (keys_of es))
    is (IsDistinct-head key_eq e.0 (keys_of es) once)) in
    ap (λ b. b ∷ map (λ (x : Entry). marked x.0) es)
    (this_key (marked e.0) (key_eq e.0 k) (ap (λ (x : KeyName). key_eq x k) is ∙ key_itself k))
    ∙ ap (λ (bs : List Bool). with_key marked k e.0 ∷ bs) (others_as_before marked k es apart)
marked_at_place marked (e ∷ es) (suc i) k o once there =
    let other : key_eq e.0 k ≡ false =
    key_at_place (λ y. key_eq e.0 y ≡ false) es i k o (IsDistinct-head key_eq e.0 (keys_of es) once) there in
    ap (λ b. b ∷ set (map (λ (x : Entry). marked x.0) es) i true) (other_key (marked e.0) (key_eq e.0 k) other)
    ∙ ap (λ (bs : List Bool). with_key marked k e.0 ∷ bs)
    (marked_at_place marked es i k o (IsDistinct-tail key_eq e.0 (keys_of es) once) there)

-- no entry has a key that isn't found
none_has : (k : KeyName) (es : List Entry) → lookup (key_eq k) es ≡ None
    → AllByRecursion (λ y. key_eq y k ≡ false) (keys_of es)
none_has k [] none = tt
none_has k (e ∷ es) none = by_test (none_has k es) (key_eq k e.0) refl
  where
    by_test : (lookup (key_eq k) es ≡ None → AllByRecursion (λ y. key_eq y k ≡ false) (keys_of es))
        → (t : Bool) → key_eq k e.0 ≡ t → AllByRecursion (λ y. key_eq y k ≡ false) (keys_of (e ∷ es))
    by_test later true is =
        absurd (none-some e.1 (sym none ∙ ap (λ b. cond b (Some e.1) (lookup (key_eq k) es)) is))
    by_test later false is = (
      keys_alike.symm e.0 k ∙ is,
      later (ap (λ b. cond b (Some e.1) (lookup (key_eq k) es)) (sym is) ∙ none),
    )

-- what is said of the key is what the entries have, if it wasn't marked; so they have at all marked
-- keys what is said
same_at_all : (es : List Entry) (k : KeyName) (v w : Option ObjectValue)
    (marked : KeyName → Bool) (said : KeyName → Option ObjectValue)
    → lookup (key_eq k) es ≡ v → (marked k ≡ false → w ≡ v)
    → ((q : KeyName) → marked q ≡ false → list_any (key_eq q) (k ∷ []) ≡ true → w ≡ said q)
    → ((q : KeyName) → marked q ≡ true → lookup (key_eq q) es ≡ said q)
    → (q : KeyName) → with_key marked k q ≡ true → lookup (key_eq q) es ≡ said q
same_at_all es k v w marked said has right given known q is = by_mark (marked q) refl (key_eq q k) refl
  where
    by_mark : (b : Bool) → marked q ≡ b → (t : Bool) → key_eq q k ≡ t → lookup (key_eq q) es ≡ said q
    by_mark true mark t key = known q mark
    by_mark false mark true key =
        let one : q ≡ k = one_key q k key in
        ap (λ (x : KeyName). lookup (key_eq x) es) one ∙ has
        ∙ sym (right (sym (ap marked one) ∙ mark)) ∙ given q mark (ap (λ t. t || false) key)
    by_mark false mark false key = absurd (true≢false (sym is
        ∙ ap (λ b. b || (key_eq q k || false)) mark ∙ ap (λ t. t || false) key))

-- each place of the entries is one of the marks
pub past_all : (marked : KeyName → Bool) (es : List Entry) (k : KeyName) (o : ObjectValue) (marks : List Bool)
    (i : ℕ) → marks ≡ map (λ (e : Entry). marked e.0) es → slice_get es i ≡ Some (k, o) → length marks ≤ i → ⊥
past_all marked es k o marks i are there past =
    let within = slice_get_within es i (k, o) there in
    let long = ap (λ (bs : List Bool). length bs) are ∙ length-map es (λ (e : Entry). marked e.0) in
    absurd (omega (arith, within, long, past))

-- a key that has this place among the entries is marked there
pub marked_there : (es : List Entry) (k : KeyName) (o : ObjectValue) (i : ℕ) (w : Option ObjectValue)
    (d : Bool) (old new : Comparison) → InOrder es → slice_get es i ≡ Some (k, o)
    → new.seen.items ≡ set old.seen.items i true → new.absent ≡ old.absent
    → (new.is_same ≡ true → (old.is_same ≡ true) × (get_or old.seen.items i d ≡ false → w ≡ Some o))
    → Marks es (k ∷ []) (λ _. w) old new
marked_there es k o i w d old new order there seen absent right marked said given had = record {
  seen = seen ∙ ap (λ (bs : List Bool). set bs i true) had.seen ∙ marked_at_place marked es i k o once there;
  absent = λ q none. ap (λ s. sorted.contains key_cmp s q) absent ∙ had.absent q none
      ∙ other_key (marked q) (key_eq q k) (unlike q none);
  same = λ same. same_at_all es k (Some o) w marked said has
      (λ unmarked. (right same).1 (place ∙ unmarked)) given (had.same (right same).0);
}
  where
    once : IsDistinct key_eq (keys_of es)
    once = IsDistinct-from_sorted key_cmp (keys_of es) order

    has : lookup (key_eq k) es ≡ Some o
    has = lookup_from_place keys_alike es i k o once there

    unlike : (q : KeyName) → lookup (key_eq q) es ≡ None → key_eq q k ≡ false
    unlike q none = by_test (key_eq q k) refl
      where
        by_test : (t : Bool) → key_eq q k ≡ t → t ≡ false
        by_test true is = absurd (none-some o (sym none
            ∙ ap (λ (x : KeyName). lookup (key_eq x) es) (one_key q k is) ∙ has))
        by_test false is = refl

    place : get_or old.seen.items i d ≡ marked k
    place = ap (λ (bs : List Bool). get_or bs i d) had.seen ∙ read es i there
      where
        read : (xs : List Entry) (j : ℕ) → slice_get xs j ≡ Some (k, o)
            → get_or (map (λ (e : Entry). marked e.0) xs) j d ≡ marked k
        read [] j at = absurd (none-some (k, o) at)
        read (x ∷ xs) zero at = ap (λ (e : Entry). marked e.0) (same_Some x (k, o) at)
        read (x ∷ xs) (suc j) at = read xs j at

-- nothing is said
pub unsaid : {A B : Type 0} (f : A → B) (o : Option A) → is_some o ≡ false → option_map f o ≡ None
unsaid f None is = refl
unsaid f (Some x) is = absurd (true≢false is)

-- a key that no entry has is marked by itself
pub marked_absent : (es : List Entry) (k : KeyName) (w : Option ObjectValue) (old new : Comparison)
    → lookup (key_eq k) es ≡ None
    → new.seen ≡ old.seen
    → ((q : KeyName) → sorted.contains key_cmp new.absent q
    ≡ cond (key_eq k q) true (sorted.contains key_cmp old.absent q))
    → (new.is_same ≡ true → (old.is_same ≡ true)
    × (sorted.contains key_cmp old.absent k ≡ false → w ≡ None))
    → Marks es (k ∷ []) (λ _. w) old new
marked_absent es k w old new none seen absent right marked said given had = record {
  seen = ap (λ s. s.items) seen ∙ had.seen ∙ others_as_before marked k es (none_has k es none);
  absent = λ q lacks. absent q ∙ ap (λ b. cond (key_eq k q) true b) (had.absent q lacks)
      ∙ ap (λ t. cond t true (marked q)) (keys_alike.symm k q) ∙ either (key_eq q k) (marked q);
  same = λ same. same_at_all es k None w marked said none
      (λ unmarked. (right same).1 (had.absent k none ∙ unmarked)) given (had.same (right same).0);
}
  where
    either : (t b : Bool) → cond t true b ≡ (b || (t || false))
    either true true = refl
    either true false = refl
    either false true = refl
    either false false = refl

-- ---- several keys
-- what marks are said of, where they are the same
pub same_marks : {es : List Entry} {marked other : KeyName → Bool} {said : KeyName → Option ObjectValue}
    {now : Comparison} → ((q : KeyName) → marked q ≡ other q)
    → AreMarked es marked said now → AreMarked es other said now
same_marks {es} {marked} {other} {said} {now} alike are =
    subst (λ (m : KeyName → Bool). AreMarked es m said now) (λ i q. alike q i) are

-- no key more
none_more : (b : Bool) → b ≡ (b || false)
none_more true = refl
none_more false = refl

-- keys of two lists, in whichever order
pub or_comm : (a b : Bool) → (a || b) ≡ (b || a)
or_comm true true = refl
or_comm true false = refl
or_comm false true = refl
or_comm false false = refl

-- keys of three lists, however they are joined
or_assoc : (a b c : Bool) → ((a || b) || c) ≡ (a || (b || c))
or_assoc true b c = refl
or_assoc false b c = refl

-- no keys are marked
pub marks_none : (es : List Entry) (given : KeyName → Option ObjectValue) (now : Comparison) → Marks es [] given now now
marks_none es given now marked said fits had = same_marks (λ q. none_more (marked q)) had

-- further keys are marked, of which what is given at keys that weren't is the same
pub marks_then : (es : List Entry) (keys more : List KeyName) (given other : KeyName → Option ObjectValue)
    (old mid new : Comparison) → Marks es keys given old mid → Marks es more other mid new
    → ((q : KeyName) → list_any (key_eq q) keys ≡ false → list_any (key_eq q) more ≡ true → other q ≡ given q)
    → Marks es (keys ++ more) given old new
marks_then es keys more given other old mid new first then agree marked said fits had =
    same_marks (λ q. or_assoc (marked q) (list_any (key_eq q) keys) (list_any (key_eq q) more)
    ∙ ap (λ b. marked q || b) (sym (list_any-append (key_eq q) keys more)))
    (then (λ q. marked q || list_any (key_eq q) keys) said later
    (first marked said (λ q unmarked among. fits q unmarked (all q (list_any (key_eq q) more) among)) had))
  where
    all : (q : KeyName) (b : Bool) → list_any (key_eq q) keys ≡ true → list_any (key_eq q) (keys ++ more) ≡ true
    all q b among = list_any-append (key_eq q) keys more ∙ ap (λ a. a || list_any (key_eq q) more) among

    later : (q : KeyName) → (marked q || list_any (key_eq q) keys) ≡ false
        → list_any (key_eq q) more ≡ true → other q ≡ said q
    later q unmarked among =
        let parts = or_parts (marked q) (list_any (key_eq q) keys) unmarked in
        agree q parts.1 among ∙ fits q parts.0 (list_any-append (key_eq q) keys more
        ∙ ap (λ a. a || list_any (key_eq q) more) parts.1 ∙ among)

-- the same keys in another list
pub same_keys : (es : List Entry) (keys others : List KeyName) (given : KeyName → Option ObjectValue)
    (old new : Comparison) → ((q : KeyName) → list_any (key_eq q) keys ≡ list_any (key_eq q) others)
    → Marks es keys given old new → Marks es others given old new
same_keys es keys others given old new alike marks marked said fits had =
    same_marks (λ q. ap (λ b. marked q || b) (alike q))
    (marks marked said (λ q unmarked among. fits q unmarked (sym (alike q) ∙ among)) had)
