-- What the keys and the objects that a reader finds say.
use Rattle.esc_store.proofs.Common.{◌≡◌, ℕ, ℤ, ◌≤◌, Bool, true, false, List, [], ◌∷◌}
use Rattle.esc_store.proofs.Common.{length, filter, map, find, Option, None, Some, refl, sym, ap, subst}
use Rattle.esc_store.proofs.Common.{◌∙◌, arith, inl, inr, cases_Bool, same_Some, option_map, is_some}
use Rattle.esc_store.proofs.Common.{IsSome, IfSome, IsSorted, int_eq}
use Rattle.esc_store.proofs.Common.{IsAscending, Less, option_and_then, kind_rank}
use Rattle.esc_store.proofs.Common.{KeyName, key_cmp, key_eq, keys_alike, same_key, ObjectValue}
use Rattle.esc_store.proofs.Common.{nat_cmp, slice_cmp, get_or, ◌+◌, Kind}
use Rattle.esc_store.proofs.Common.{record_of, State, Database, HoldsContent, Content, ObjectRow}
use Rattle.esc_store.proofs.Common.{ObjectEntry}
use Rattle.esc_store.proofs.Common.{object_at, stored_entry, IsRegistry, entry_row, record_row}
use Rattle.std.proofs.Common.{rules}
use Rattle.std.specs.Prelude.{IsPermutation}
use Rattle.std.specs.List.{list_any}
use Rattle.std.specs.Cmp.{IsTotalOrder}
use Rattle.std.specs.List.Sorted.{IsStrictlySortedBy}
use Rattle.std.specs.Ordering.{is_lt, is_eq, ordering_then}
use Rattle.std.specs.declared.cmp.Ordering.{Ordering}
use Rattle.std.specs.declared.cmp.Ordering.TheVariants.{Equal, Greater}
use Rattle.std.proofs.lemmas.Cmp.{nat_list_eq_equiv}
use Rattle.std.proofs.lemmas.List.Sorted.{IsPermutation-map, IsPermutation-trans, list_any-IsPermutation}
use Rattle.std.proofs.lemmas.Map.Views.{Contains-from_any, list_any-from_Contains}
use Rattle.sqlite_keyed.specs.Keyed.{get_by}
use Rattle.sqlite_keyed.proofs.ListLemmas.{IsPermutation-same}
use Rattle.sqlite_keyed.proofs.ListLemmas.{map-map, all_map, ascending-map}
use Rattle.sqlite_keyed.proofs.ListLemmas.{ascending_from_map, ascending_weaker}
use Rattle.sqlite_keyed.proofs.SortLemmas.{sorted_is-sort_by}
use Rattle.esc_envelope.specs.contracts.kind.KindOrd.TheImpl as kind_ord
use Rattle.esc_sql.specs.Content.{is_object_at, is_same_key}
use Rattle.esc_sql.specs.Changes.{by_key, object_entry}
use Rattle.esc_sql.specs.Rows.{object_number}
use Rattle.esc_sql.proofs.Finds.{few}
use Rattle.esc_sql.proofs.ObjectLemmas.{object_keys}
use Rattle.esc_sql.proofs.Sorts.{both_total, by_both, rises-sorted}
use Rattle.esc_sql.proofs.Sorts.{key_eq as both_eq}
use Rattle.esc_sql.specs.declared.object.StoredObject.{StoredObject}
use Rattle.esc_scan.specs.ObjectKeys.{key_of_object, object_with}
use Rattle.esc_store.specs.TableKeys.{AreKeysOf, key_at, numbered_key}
use Rattle.esc_store.specs.declared.reader.objects.TableKey.{TableKey}
use Rattle.esc_store.proofs.ReaderRows.{sorted_keys}
use Rattle.esc_store.proofs.Registries.{AreAlone, itself, one_object, record_here, same_tests}

-- ---- the object with a rowid

one_passes : {X : Type 0} (p : X → Bool) (xs : List X) (x : X) → find p xs ≡ Some x → 1 ≤ length (filter p xs)
one_passes p [] x found = let never : None ≡ Some x = found in absurd cc
one_passes p (y ∷ xs) x found = grind (arith, one_passes p xs x, found)

-- the row that another test finds, where one row at most passes this one
found_too : {X : Type 0} (p q : X → Bool) (xs : List X) (x : X)
    → find q xs ≡ Some x → p x ≡ true → length (filter p xs) ≤ 1 → find p xs ≡ Some x
found_too p q [] x found passes short = found
found_too p q (y ∷ xs) x found passes short = elim (cases_Bool (q y)) [
  | inl is ↦
      let same : y ≡ x = same_Some y x (rw is at found) in
      let here : p y ≡ true = subst (λ z. p z ≡ true) (sym same) passes in
      rw here (ap Some same)
  | inr other ↦
      let there : find q xs ≡ Some x = rw other at found in
      let rest : length (filter p xs) ≤ 1 → find p xs ≡ Some x = found_too p q xs x there passes in
      let one : find p xs ≡ Some x → 1 ≤ length (filter p xs) = one_passes p xs x in
      grind (arith, short, rest, one)
]

-- the row with a rowid is the one at its key
at_its_key : (db : Database) (c : Content) (id : ℤ) (o : ObjectRow) → HoldsContent db c
    → get_by object_number c.objects id ≡ Some o → object_at o.kind o.key c.objects ≡ Some o.bytes
at_its_key db c id o holds found =
    ap (option_map (λ (o : ObjectRow). o.bytes))
    (found_too (is_object_at o.kind o.key) (λ (x : ObjectRow). int_eq (object_number x) id) c.objects
    o found (itself o.kind o.key) (few object_keys (λ _. true) (o.kind, o.key) db c holds))

object_read : AreAlone → (db : Database) (s : State) (c : Content) (id : ℤ)
    (key : KeyName) (stored : ObjectEntry) (object : ObjectValue) → HoldsContent db c → IsRegistry c s
    → Some stored ≡ object_with id c.objects
    → entry_row (key, object) ≡ record_row stored → s.content key ≡ Some object
object_read alone db s c id key stored object holds registry found is =
    at (get_by object_number c.objects id) refl where
      at : (o : Option ObjectRow) → get_by object_number c.objects id ≡ o → s.content key ≡ Some object
      at None none = let never : Some stored ≡ None = found ∙ ap (option_map object_entry) none in absurd cc
      at (Some o) some =
          let same : Some stored ≡ Some (object_entry o) = found ∙ ap (option_map object_entry) some in
          let row : entry_row (key, object) ≡ record_row (object_entry o) =
          is ∙ ap record_row (same_Some stored (object_entry o) same) in
          let kinds : kind_rank key.kind ≡ o.kind = ap (λ (p : ℕ × List ℕ × Option (List ℕ)). p.0) row in
          let texts : key.text ≡ o.key = ap (λ (p : ℕ × List ℕ × Option (List ℕ)). p.1) row in
          let records : record_of object ≡ Some o.bytes = ap (λ (p : ℕ × List ℕ × Option (List ℕ)). p.2) row in
          let there : object_at (kind_rank key.kind) key.text c.objects ≡ Some o.bytes =
          rw (kinds, texts) (at_its_key db c id o holds some) in
          sym (one_object alone object o.bytes (s.content key) records
          (sym there ∙ (registry.objects (kind_rank key.kind) key.text ∙ record_here s.content key)))

-- the object that is found by a row's number is that of its key
pub object_found : AreAlone → (db : Database) (s : State) (c : Content) (id : ℤ) (key : KeyName)
    (found : Option StoredObject) (object : ObjectValue) → HoldsContent db c → IsRegistry c s
    → option_map stored_entry found ≡ object_with id c.objects
    → option_map (λ it. record_row (stored_entry it)) found ≡ Some (entry_row (key, object))
    → s.content key ≡ Some object
object_found alone db s c id key None object holds registry says is =
    let never : None ≡ Some (entry_row (key, object)) = is in absurd cc
object_found alone db s c id key (Some stored) object holds registry says is =
    object_read alone db s c id key (stored_entry stored) object holds
    registry says (sym (same_Some (record_row (stored_entry stored)) (entry_row (key, object)) is))

-- ---- the keys

-- the number of a kind, and the bytes of a text
abbrev Name : Type 0
Name = ℕ × List ℕ

abbrev name_of : TableKey → Name
name_of it = (kind_rank it.kind, it.text.items)

abbrev row_name : ObjectRow → Name
row_name o = (o.kind, o.key)

abbrev number_in : Name → ℕ
number_in x = x.0

abbrev text_in : Name → List ℕ
text_in x = x.1

abbrev name_cmp : Name → Name → Ordering
name_cmp = by_both number_in text_in

name_total : IsTotalOrder name_cmp
name_total = both_total number_in text_in

abbrev by_kind : TableKey → TableKey → Ordering
by_kind a b = nat_cmp (kind_rank a.kind) (kind_rank b.kind)

abbrev by_text : TableKey → TableKey → Ordering
by_text a b = slice_cmp nat_cmp a.text.items b.text.items

abbrev by_name : TableKey → TableKey → Ordering
by_name a b = key_cmp (key_at a) (key_at b)

-- the derived order of kinds
abbrev kinds_cmp : Kind → Kind → Ordering
kinds_cmp = (kind_ord.cmp-value).it

-- it is that of their ranks
by_rank : (a b : Kind) → kinds_cmp a b ≡ nat_cmp (kind_rank a) (kind_rank b)
by_rank a b = search rules

-- what is not below by kind, text and more is not below by kind and text
text_first : (o p : Ordering) → is_lt (ordering_then o p) ≡ false → is_lt o ≡ false
text_first Less p h = h
text_first Equal p h = refl
text_first Greater p h = refl

key_first : (n o p : Ordering)
    → is_lt (ordering_then n (ordering_then o p)) ≡ false → is_lt (ordering_then n o) ≡ false
key_first Less o p h = h
key_first Equal o p h = text_first o p h
key_first Greater o p h = refl

-- what is sorted by kind and text, and then otherwise, is sorted by key
pub sorted_by_key : (next : TableKey → TableKey → Ordering) (keys : List TableKey)
    → IsSorted (λ a b. ordering_then (kinds_cmp a.kind b.kind) (ordering_then (by_text a b) (next a b))) keys
    → IsSorted by_name keys
sorted_by_key next keys up k d low high =
    let a = get_or keys (k + 1) d in
    let b = get_or keys k d in
    key_first (by_kind a b) (by_text a b) (next a b)
    (subst (λ o. is_lt (ordering_then o (ordering_then (by_text a b) (next a b))) ≡ false)
    (by_rank a.kind b.kind) (up k d low high))

in_order : (keys : List TableKey)
    → IsAscending (λ a b. by_name a b ≡ Less) keys → IsStrictlySortedBy key_cmp (map key_at keys)
unfolding IsStrictlySortedBy
in_order [] up = tt
in_order (k ∷ keys) up = (all_map (λ q. key_cmp (key_at k) q ≡ Less) key_at keys up.0, in_order keys up.1)

abbrev at_name : ℕ → List ℕ → Name → Bool
at_name n text x = is_same_key n text x.0 x.1

any_named : (q : KeyName) (keys : List TableKey) → list_any (key_eq q) (map key_at keys)
    ≡ list_any (at_name (kind_rank q.kind) q.text) (map name_of keys)
any_named q [] = refl
any_named q (k ∷ keys) = rw (same_tests q (key_at k), any_named q keys) refl

any_at : (n : ℕ) (text : List ℕ) (os : List ObjectRow)
    → list_any (at_name n text) (map row_name os) ≡ is_some (object_at n text os)
any_at n text [] = refl
any_at n text (o ∷ os) = grind (arith, nat_list_eq_equiv.symm text o.key, any_at n text os)

still_some : (o : Option ObjectValue)
    → IfSome o (λ x. IsSome (record_of x)) → is_some (option_and_then record_of o) ≡ is_some o
still_some None has = refl
still_some (Some x) has = has

module _ (db : Database) (s : State) (c : Content) (keys sorted : List TableKey)
    (holds : HoldsContent db c) (registry : IsRegistry c s)
    (says : map numbered_key keys ≡ map key_of_object c.objects)
    (turned : IsPermutation keys sorted) where
  -- no two objects have one name
  apart : IsAscending (λ x y. is_eq (name_cmp x y) ≡ false) (map row_name c.objects)
  apart = ascending-map (λ x y. is_eq (name_cmp x y) ≡ false) row_name c.objects
      (ascending_weaker _ (λ a b. is_eq (by_key a b) ≡ false)
      (λ a b other. both_eq a.kind a.key b.kind b.key ∙ other) c.objects (object_keys.apart db c holds))

  -- the keys have the names of the objects
  named : IsPermutation (map row_name c.objects) (map name_of sorted)
  named =
      let name : ℤ × ℕ × List ℕ → Name = λ p. (p.1, p.2) in
      IsPermutation-trans (map row_name c.objects) (map name_of keys) (map name_of sorted)
      (rw (map-map name key_of_object c.objects, map-map name numbered_key keys)
      at (IsPermutation-map name (map key_of_object c.objects) (map numbered_key keys)
      (IsPermutation-same _ _ (sym says))))
      (IsPermutation-map name_of keys sorted turned)

  there : (q : KeyName) → is_some (object_at (kind_rank q.kind) q.text c.objects) ≡ is_some (s.content q)
  there q = ap is_some (registry.objects (kind_rank q.kind) q.text ∙ record_here s.content q)
      ∙ still_some (s.content q) (registry.recorded q)

  -- a key is among them where an object has it
  are_at : (q : KeyName) → list_any (key_eq q) (map key_at sorted) ≡ is_some (s.content q)
  are_at q =
      let test = at_name (kind_rank q.kind) q.text in
      any_named q sorted
      ∙ sym (list_any-IsPermutation test (map row_name c.objects) (map name_of sorted) named)
      ∙ any_at (kind_rank q.kind) q.text c.objects ∙ there q

  -- so in their order they are the keys of the objects
  pub are_keys : IsSorted by_name sorted → AreKeysOf s.content (map key_at sorted)
  are_keys up =
      let rising : IsAscending (λ x y. name_cmp x y ≡ Less) (map name_of sorted) =
      subst (IsAscending (λ x y. name_cmp x y ≡ Less))
      (sym (sorted_is-sort_by name_cmp name_total (map row_name c.objects) (map name_of sorted) apart named
      (sorted_keys name_of name_cmp sorted up))) (rises-sorted name_cmp name_total (map row_name c.objects) apart) in
      record {
        order = in_order sorted (ascending_from_map (λ x y. name_cmp x y ≡ Less) name_of sorted rising);
        each = λ q. (
          λ has. sym (are_at q) ∙ list_any-from_Contains keys_alike q _ has,
          λ some. Contains-from_any same_key q _ (are_at q ∙ some),
        );
      }
