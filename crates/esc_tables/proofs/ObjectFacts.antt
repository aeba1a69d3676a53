-- Objects as entries in the order of their keys, and as what each key has.
use Rattle.std.proofs.Common.{◌≡◌, ◌∙◌, Bool, true, false, cond, List, [], ◌∷◌, map, Option, Some}
use Rattle.std.proofs.Common.{None, refl, sym, ap, subst, inl, inr}
use Rattle.std.specs.Prelude.{option_map, T, ◌&&◌}
use Rattle.std.specs.List.{last_or, fold, AllByRecursion}
use Rattle.std.specs.List.Sorted.{IsStrictlySortedBy}
use Rattle.std.specs.Map.{lookup, keys_of}
use Rattle.std.specs.BTreeMap.{is_at}
use Rattle.std.specs.FinMap.Entries.{put, find, is_sorted, below_all, find-put, is_sorted-put, same_entries}
use Rattle.std.specs.Ordering.{is_lt}
use Rattle.std.specs.declared.cmp.Ordering.{Ordering}
use Rattle.std.specs.declared.cmp.Ordering.TheVariants.{Less}
use Rattle.std.proofs.lemmas.Bool.{cases_Bool}
use Rattle.esc_tables.specs.KeyName.{KeyName, key_cmp, key_eq}
use Rattle.esc_tables.specs.ObjectValue.{RowValue, ObjectValue}
use Rattle.esc_tables.specs.Objects.{at_key, with_children, object_of, last_by_key, objects_of}
use Rattle.esc_tables.specs.KeyLaws.{keys_total, keys_exact, one_key}

-- ---- the words of the map, and those of the definition

-- what is found at a key is what is looked up
pub found_is : {X : Type 0} (k : KeyName) (es : List (KeyName × X))
    → find key_cmp k es ≡ lookup (is_at (key_cmp k)) es
found_is k [] = refl
found_is {X = X} k (e ∷ es) = ap (λ (o : Option X). cond (key_eq k e.0) (Some e.1) o) (found_is k es)

both_hold : (a b : Bool) → T a → T b → T (a && b)
both_hold true b p q = q
both_hold false b p q = p

below_from : {X : Type 0} (k : KeyName) (es : List (KeyName × X))
    → AllByRecursion (λ y. key_cmp k y ≡ Less) (keys_of es) → T (below_all key_cmp k es)
below_from k [] h = tt
below_from k (e ∷ es) h = both_hold (is_lt (key_cmp k e.0))
    (below_all key_cmp k es) (subst (λ (r : Ordering). T (is_lt r)) (sym h.0) tt) (below_from k es h.1)

-- keys that rise are sorted
pub sorted_from : {X : Type 0} (es : List (KeyName × X))
    → IsStrictlySortedBy key_cmp (keys_of es) → T (is_sorted key_cmp es)
unfolding IsStrictlySortedBy
sorted_from [] h = tt
sorted_from (e ∷ es) h = both_hold (below_all key_cmp e.0 es)
    (is_sorted key_cmp es) (below_from e.0 es h.0) (sorted_from es h.1)

-- entries in order that have the same for each key are the same
pub same_objects : {X : Type 0} (es fs : List (KeyName × X)) → T (is_sorted key_cmp es)
    → T (is_sorted key_cmp fs) → ((k : KeyName) → find key_cmp k es ≡ find key_cmp k fs) → es ≡ fs
same_objects es fs first then same = same_entries key_cmp keys_total keys_exact es fs first then same

-- ---- each key once, with its last value

-- the last entry of a key, one entry further
pub last_at : {X : Type 0} (k : KeyName) (p : KeyName × X) (ps : List (KeyName × X)) (o : Option X)
    → last_or o (at_key k (p ∷ ps)) ≡ last_or (cond (key_eq k p.0) (Some p.1) o) (at_key k ps)
last_at k p ps o = elim (cases_Bool (key_eq k p.0)) [ inl e ↦ rw e refl | inr e ↦ rw e refl ]

-- entries with one more put at its key
abbrev pub putting : {X : Type 0} → List (KeyName × X) → KeyName × X → List (KeyName × X)
putting entries p = put key_cmp p.0 p.1 entries

found_from : {X : Type 0} (k : KeyName) (ps es : List (KeyName × X))
    → find key_cmp k (fold putting es ps) ≡ last_or (find key_cmp k es) (at_key k ps)
found_from k [] es = refl
found_from {X = X} k (p ∷ ps) es =
    found_from k ps (put key_cmp p.0 p.1 es) ∙ ap (λ (o : Option X). last_or o (at_key k ps))
    (find-put key_cmp keys_total k p.0 p.1 es) ∙ sym (last_at k p ps (find key_cmp k es))

sorted_onward : {X : Type 0} (ps es : List (KeyName × X))
    → T (is_sorted key_cmp es) → T (is_sorted key_cmp (fold putting es ps))
sorted_onward [] es h = h
sorted_onward (p ∷ ps) es h =
    sorted_onward ps (put key_cmp p.0 p.1 es) (is_sorted-put key_cmp keys_total p.0 p.1 es h)

-- at each key is what came last
pub last_by_key_found : {X : Type 0} (k : KeyName) (ps : List (KeyName × X))
    → find key_cmp k (last_by_key ps) ≡ last_or None (at_key k ps)
last_by_key_found k ps = found_from k ps []

-- entries by key are sorted
pub last_by_key_sorted : {X : Type 0} (ps : List (KeyName × X)) → T (is_sorted key_cmp (last_by_key ps))
last_by_key_sorted ps = sorted_onward ps [] tt

-- ---- each key with its object

abbrev object_at : List (KeyName × RowValue) → KeyName × RowValue → KeyName × ObjectValue
object_at children e = (e.0, with_children (at_key e.0 children) e.1)

found_object : (k : KeyName) (children es : List (KeyName × RowValue)) → find key_cmp
    k (map (object_at children) es) ≡ option_map (with_children (at_key k children)) (find key_cmp k es)
found_object k children [] = refl
found_object k children (e ∷ es) = elim (cases_Bool (key_eq k e.0)) [
  | inl same ↦ rw same
      (ap (λ (l : KeyName). Some (with_children (at_key l children) e.1)) (sym (one_key k e.0 same)))
  | inr other ↦ rw other (found_object k children es)
]

same_below : (k : KeyName) (children es : List (KeyName × RowValue))
    → below_all key_cmp k (map (object_at children) es) ≡ below_all key_cmp k es
same_below k children [] = refl
same_below k children (e ∷ es) = ap (λ (b : Bool). is_lt (key_cmp k e.0) && b) (same_below k children es)

same_sorted : (children es : List (KeyName × RowValue))
    → is_sorted key_cmp (map (object_at children) es) ≡ is_sorted key_cmp es
same_sorted children [] = refl
same_sorted children (e ∷ es) = rw (same_below e.0 children es, same_sorted children es) refl

-- the entries have for each key its object
pub objects_found : (parents children : List (KeyName × RowValue)) (k : KeyName)
    → find key_cmp k (objects_of parents children) ≡ object_of parents children k
unfolding objects_of
objects_found parents children k = found_object k children (last_by_key parents)
    ∙ ap (option_map (with_children (at_key k children))) (last_by_key_found k parents)

-- the objects of rows are sorted by key
pub objects_sorted : (parents children : List (KeyName × RowValue))
    → T (is_sorted key_cmp (objects_of parents children))
unfolding objects_of
objects_sorted parents children =
    subst T (sym (same_sorted children (last_by_key parents))) (last_by_key_sorted parents)
