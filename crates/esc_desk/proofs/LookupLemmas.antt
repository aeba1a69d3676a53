-- A search among keys in order, and what it finds among the entries that have these keys.
use Rattle.std.proofs.Common.{◌≡◌, ℕ, zero, suc, ◌+◌, ◌<◌, ◌≤◌, false, List, [], ◌∷◌, length, map}
use Rattle.std.proofs.Common.{get_or, slice_get, Option, Some, None, IfSome, Result, Ok, Err, is_some}
use Rattle.std.proofs.Common.{Ordering, Less, Equal, Greater, refl, sym, ap, ap₂, subst, ◌∙◌, arith}
use Rattle.std.specs.Cmp.{both_ways}
use Rattle.std.specs.List.{list_any}
use Rattle.std.specs.List.Sorted.{IsBinarySearchResult, IsNonDecreasingBy, IsSearchInRange, IsStrictlySortedBy}
use Rattle.std.specs.Map.{lookup, keys_of}
use Rattle.std.specs.Result.{result_ok}
use Rattle.std.specs.Ordering.{is_lt, ordering_index, ordering_reverse}
use Rattle.std.proofs.lemmas.List.{get_or-map, length-map}
use Rattle.std.proofs.lemmas.List.Sorted.{searchable_from_sorted}
use Rattle.std.proofs.lemmas.Map.Entries.{lookup_from_place}
use Rattle.std.proofs.lemmas.Map.Keys.{IsDistinct-from_sorted, Less-from_sorted}
use Rattle.std.proofs.lemmas.Map.Lookups.{btree_set_from_contains}
use Rattle.std.proofs.lemmas.Map.Made.{is_some-lookup}
use Rattle.std.proofs.lemmas.Map.Views.{Contains-from_any, list_any-from_Contains}
use Rattle.std.proofs.lemmas.Option.{same_Some}
use Rattle.esc_tables.specs.KeyLaws.{keys_total, keys_exact, keys_alike, one_key as same_key}
use Rattle.esc_tables.specs.KeyName.{KeyName, key_cmp, key_eq}
use Rattle.esc_tables.specs.ObjectValue.{ObjectValue}
use Rattle.esc_apply.specs.ObjectStreams.{Entry, InOrder}
use Rattle.esc_apply.specs.Registry.{ObjectsByKey}
use Rattle.esc_store.specs.declared.reader.objects.TableKey.{TableKey}
use Rattle.esc_store.specs.TableKeys.{AreKeysOf, key_at}
use Rattle.esc_desk.specs.Lookups.{IsFoundAmong}
use Rattle.esc_desk.specs.Walking.{AreAllOf}

-- ---- a search

-- two keys compared the other way round
turned : (a b : KeyName) (o : Ordering) → key_cmp a b ≡ o → key_cmp b a ≡ ordering_reverse o
turned a b o is = keys_total.antisymm b a ∙ ap ordering_reverse is

module _ (key : KeyName) where
  -- what a search compares
  abbrev pub compared : TableKey → Ordering
  compared it = key_cmp (key_at it) key

  -- the key stands where the comparison says equal
  stands_there : (keys : List TableKey) (at : ℕ) → at < length keys
      → ((d : TableKey) → compared (get_or keys at d) ≡ Equal) → slice_get (map key_at keys) at ≡ Some key
  stands_there [] at in_range equal = absurd (omega (arith, in_range))
  stands_there (it ∷ keys) zero in_range equal = ap Some (keys_exact (key_at it) key (equal it))
  stands_there (it ∷ keys) (suc at) in_range equal = stands_there keys at (omega (arith, in_range)) equal

  -- a key is in no list where all before a place are below it, and all from there on above it
  stands_nowhere : (keys : List TableKey) (at : ℕ)
      → ((j : ℕ) (d : TableKey) → j < at → compared (get_or keys j d) ≡ Less)
      → ((j : ℕ) (d : TableKey) → at ≤ j → j < length keys → compared (get_or keys j d) ≡ Greater)
      → list_any (key_eq key) (map key_at keys) ≡ false
  stands_nowhere [] at below above = refl
  stands_nowhere (it ∷ keys) zero below above =
      let first = turned (key_at it) key Greater (above 0 it (omega arith) (omega arith)) in
      rw first (stands_nowhere keys zero (λ j d lt. absurd (omega (arith, lt)))
      (λ j d le lt. above (suc j) d (omega arith) (omega (arith, lt))))
  stands_nowhere (it ∷ keys) (suc at) below above =
      let first = turned (key_at it) key Less (below 0 it (omega arith)) in
      rw first (stands_nowhere keys at (λ j d lt. below (suc j) d (omega (arith, lt)))
      (λ j d le lt. above (suc j) d (omega (arith, le)) (omega (arith, lt))))

  -- keys in order can be searched
  searchable : (keys : List TableKey)
      → IsStrictlySortedBy key_cmp (map key_at keys) → IsNonDecreasingBy (λ it. ordering_index (compared it)) keys
  searchable keys up = searchable_from_sorted keys_total key_at keys key (λ k d le lt.
      let long : length (map key_at keys) ≡ length keys = length-map keys key_at in
      let here = get_or-map key_at keys k d (key_at d) (omega (arith, lt)) in
      let next = get_or-map key_at keys (k + 1) d (key_at d) lt in
      let low : key_cmp (key_at (get_or keys k d)) (key_at (get_or keys (k + 1) d)) ≡ Less =
      sym (ap₂ key_cmp here next) ∙ Less-from_sorted key_cmp (map key_at keys) k (k + 1) (key_at d) up
      (omega arith) (omega (arith, lt, long)) in
      ap is_lt (turned (key_at (get_or keys k d)) (key_at (get_or keys (k + 1) d)) Less low))

  -- where a search says that the key stands, it does
  pub found_in : (keys : List TableKey) (r : Result ℕ ℕ) (o : Option ℕ) → o ≡ result_ok r
      → IsSearchInRange r (length keys) → IsBinarySearchResult compared keys r
      → IfSome o (λ at. slice_get (map key_at keys) at ≡ Some key)
  found_in keys (Ok at) o is in_range equal =
      subst (λ o. IfSome o (λ at. slice_get (map key_at keys) at ≡ Some key)) (sym is)
      (stands_there keys at in_range equal)
  found_in keys (Err at) o is in_range parted =
      subst (λ o. IfSome o (λ at. slice_get (map key_at keys) at ≡ Some key)) (sym is) tt

  -- a key that it does not find is not in the list
  pub absent_from : (keys : List TableKey) (r : Result ℕ ℕ) (o : Option ℕ) → o ≡ result_ok r
      → IsBinarySearchResult compared keys r → o ≡ None → IsStrictlySortedBy key_cmp (map key_at keys)
      → list_any (key_eq key) (map key_at keys) ≡ false
  absent_from keys (Ok at) o is equal none up = let never : Some at ≡ None = sym is ∙ none in absurd cc
  absent_from keys (Err at) o is parted none up =
      let parts = parted (searchable keys up) in
      stands_nowhere keys at (λ j d lt. parts.0 j d (omega arith) lt) (λ j d le lt. parts.1 j d le lt)

-- what is read at the place of a key has that key
pub key_there : (keys : List TableKey) (at : ℕ) (key : KeyName) (it : TableKey)
    → slice_get (map key_at keys) at ≡ Some key → it ≡ get_or keys at it → key_at it ≡ key
key_there [] at key it named read = absurd cc
key_there (first ∷ keys) zero key it named read = ap key_at read ∙ same_Some (key_at first) key named
key_there (first ∷ keys) (suc at) key it named read = key_there keys at key it named read

-- ---- entries

any_kept : (content : ObjectsByKey) (ks : List KeyName)
    → AreKeysOf content ks → (q : KeyName) → list_any (key_eq q) ks ≡ is_some (content q)
any_kept content ks are q =
    both_ways (list_any (key_eq q) ks)
    (is_some (content q)) (λ any. (are.each q).0 (Contains-from_any same_key q ks any))
    (λ some. list_any-from_Contains keys_alike q ks ((are.each q).1 some))

-- the keys of a content are those of its entries
pub keys_of_all : (content : ObjectsByKey) (ks : List KeyName) (es : List Entry)
    → AreKeysOf content ks → AreAllOf content es → ks ≡ keys_of es
keys_of_all content ks es are all =
    btree_set_from_contains keys_total (record { keys = ks }) (record { keys = keys_of es }) are.order all.order
    (λ q. any_kept content ks are q ∙ ap is_some (sym (all.each q)) ∙ is_some-lookup (key_eq q) es) keys_exact

-- the value of the entry that has the key at a place
entry_at : (es : List Entry) (at : ℕ) (key : KeyName) → slice_get (keys_of es) at ≡ Some key
    → (o : ObjectValue) × (slice_get es at ≡ Some (key, o))
entry_at [] at key is = absurd cc
entry_at (e ∷ es) zero key is = (e.1, λ i. Some (same_Some e.0 key is i, e.1))
entry_at (e ∷ es) (suc at) key is = entry_at es at key is

-- what is not some is none
none_there : (o : Option ObjectValue) → is_some o ≡ false → o ≡ None
none_there None is = refl
none_there (Some o) is = absurd cc

module _ (ks : List KeyName) (key : KeyName) (es : List Entry) (order : InOrder es) (same : ks ≡ keys_of es) where
  -- a key that the search does not find has no entry
  pub found_nowhere : (IsStrictlySortedBy key_cmp ks → list_any (key_eq key) ks ≡ false) → IsFoundAmong es key None
  found_nowhere absent =
      let unnamed = subst (λ ks. IsStrictlySortedBy key_cmp ks → list_any (key_eq key) ks ≡ false) same absent in
      record {
        object = sym (none_there (lookup (key_eq key) es) (is_some-lookup (key_eq key) es ∙ unnamed order));
        position = tt;
      }

  -- and one that it finds has there the object that the tables have
  pub found_there : (content : ObjectsByKey) (at : ℕ) (object : ObjectValue)
      → ((q : KeyName) → lookup (key_eq q) es ≡ content q) → slice_get ks at ≡ Some key → content key ≡ Some object
      → IsFoundAmong es key (Some (at, object))
  found_there content at object each there says =
      let place = entry_at es at key (subst (λ ks. slice_get ks at ≡ Some key) same there) in
      let distinct = IsDistinct-from_sorted key_cmp (keys_of es) order in
      let stands = lookup_from_place keys_alike es at key place.0 distinct place.1 in
      let one : place.0 ≡ object = same_Some place.0 object (sym stands ∙ each key ∙ says) in
      record {
        object = sym (each key ∙ says);
        position = subst (λ o. slice_get es at ≡ Some (key, o)) one place.1;
      }
