-- What the queries of many objects give.
use Rattle.esc_sql.proofs.Common.{◌≡◌, ℕ, pos, true, false, List, [], ◌∷◌, refl, arith, filter}
use Rattle.esc_sql.proofs.Common.{◌≤◌, map, take, length, Option, None, sym, ap, subst, ◌∙◌, Bool, cond}
use Rattle.esc_sql.proofs.Common.{◌&&◌, option_map, find, Less, Equal, is_eq, ◌==◌, and_parts}
use Rattle.esc_sql.proofs.Common.{nat_cmp_total, length-map, length_permutation, IsTotalOrder}
use Rattle.esc_sql.proofs.Common.{AllByRecursion, last_or, ordering_then, Database, IsAscending}
use Rattle.esc_sql.proofs.Common.{filter_same, all_weaker, IsPermutation-filter, ascending_weaker}
use Rattle.esc_sql.proofs.Common.{ascending-filter, filter-map, ascending-map, IsPermutation-sort_by}
use Rattle.esc_sql.proofs.Common.{sort_by, Row, value_cmp, Int, Blob, ObjectEntry, is_entry_at}
use Rattle.esc_sql.proofs.Common.{object_entry, by_key, entry_at, is_kind_from, HoldsContent, Content}
use Rattle.esc_sql.proofs.Common.{object_at, is_object_at, ObjectRow, shown_object, shown_kind, Objects}
use Rattle.esc_sql.proofs.Common.{objects_from_text, select_kinds_text, Ordering, eqb-true}
use Rattle.esc_sql.specs.Changes.{ListsKinds, by_entry, is_from, last_key, is_up_to, ListsFrom}
use Rattle.esc_sql.specs.StatementSteps.{ShowsKinds, ShowsFrom}
use Rattle.esc_sql.proofs.Compiled.{query_is}
use Rattle.esc_sql.proofs.Finds.{find_same, found-map, few, found-and, filter-and, find-filter}
use Rattle.esc_sql.proofs.Sorts.{find-sorted, key_eq, both_total, both_values, all-take, ascending-take}
use Rattle.esc_sql.proofs.Sorts.{all_passed, all-sorted, rises-sorted, is_at, reaches, firsts_find}
use Rattle.esc_sql.proofs.Typed.{every}
use Rattle.esc_sql.proofs.ObjectLemmas.{keys_are, object_keys}
use Rattle.esc_sql.proofs.PartLemmas.{IsAsking}
use Rattle.esc_sql.proofs.Statements.{asks_sorted}
use Rattle.std.specs.Cmp.{tied_itself}
use Rattle.esc_sql.proofs.Scan.{not_below, and_true, same_number_of}

-- what objects are sorted by
abbrev pub sorted_by : ObjectRow → Row
sorted_by o = Int (pos o.kind) ∷ Blob o.key ∷ []

-- the order of keys is total
pub key_total : IsTotalOrder by_key
key_total = both_total (λ (o : ObjectRow). o.kind) (λ (o : ObjectRow). o.key)

-- the order of the queries' columns
pub key_values : (a b : ObjectRow) → ordering_then (value_cmp (Int (pos a.kind)) (Int (pos b.kind)))
    (ordering_then (value_cmp (Blob a.key) (Blob b.key)) Equal) ≡ by_key a b
key_values = both_values (λ o. o.kind) (λ o. o.key)

-- no two of the rows are alike in it
apart : (db : Database) (c : Content)
    → HoldsContent db c → IsAscending (λ a b. is_eq (by_key a b) ≡ false) c.objects
apart db c h = ascending_weaker _ (λ a b. is_eq (by_key a b) ≡ false)
    (λ a b other. key_eq a.kind a.key b.kind b.key ∙ other) c.objects (object_keys.apart db c h)

-- what is found of sorted rows, where one row at most passes both tests
pub sorted_found : {X Y V : Type 0} (out : Y → V) (q : Y → Bool) (f : X → Y) (cmp : X → X → Ordering)
    → IsTotalOrder cmp → (p : X → Bool) (xs : List X) → length (filter (λ x. p x && q (f x)) xs) ≤ 1
    → option_map out (find q (map f (sort_by cmp (filter p xs))))
    ≡ option_map (λ x. out (f x)) (find (λ x. p x && q (f x)) xs)
sorted_found out q f cmp total p xs few =
    found-map out q f (sort_by cmp (filter p xs))
    ∙ ap (option_map (λ x. out (f x))) (find-sorted cmp total (λ x. q (f x))
    (filter p xs) (rw (filter-and (λ x. q (f x)) p xs) few) ∙ find-filter (λ x. q (f x)) p xs)

objects_found : (p : ObjectRow → Bool) (k : ℕ) (q : List ℕ) (e : Bool) → ((o : ObjectRow)
    → is_object_at k q o ≡ true → p o ≡ e) → (db : Database) (c : Content) → HoldsContent db c
    → entry_at k q (map object_entry (sort_by by_key (filter p c.objects))) ≡ cond e (object_at k q c.objects) None
objects_found p k q e same db c h =
    sorted_found (λ (e : ObjectEntry). e.bytes)
    (is_entry_at k q) object_entry by_key key_total p c.objects (few object_keys p (k, q) db c h)
    ∙ found-and (λ o. o.bytes) p (is_object_at k q) e same c.objects

-- the query of kinds shows that of each object
pub shows_kinds : IsAsking select_kinds_text [] ShowsKinds
shows_kinds = asks_sorted Objects (λ o. (sorted_by o, shown_kind o))
    (query_is refl) every (λ o. refl) by_key key_total (λ a b. key_values a b) apart

-- the kinds that are shown are those of the objects, by key
pub lists_kinds : (db : Database) (c : Content) (found : List ℕ)
    → HoldsContent db c → found ≡ map (λ o. o.kind) (sort_by by_key c.objects) → ListsKinds c found
lists_kinds db c found h is = record {
  sorted = is;
  counts = λ kind.
      let kind_of : ObjectRow → ℕ = λ o. o.kind in
      let of_kind : ObjectRow → Bool = λ o. o.kind == kind in
      ap (λ l. length (filter (λ k. k == kind) l)) is ∙ ap length (filter-map (λ k. k == kind) kind_of
      (sort_by by_key c.objects)) ∙ length-map (filter of_kind (sort_by by_key c.objects)) kind_of
      ∙ sym (length_permutation
      _ _ (IsPermutation-filter of_kind _ _ (IsPermutation-sort_by by_key key_total c.objects)));
  own = object_keys.apart db c h;
}

-- ---- a page of objects: what its query gives, and what that is

-- the query of a kind's objects shows those from a key on
pub shows_from : (kind : ℕ) (from : List ℕ)
    → IsAsking objects_from_text (Int (pos kind) ∷ Blob from ∷ []) (ShowsFrom kind from)
shows_from kind from =
    let p = is_kind_from kind from in
    asks_sorted Objects (λ o. (sorted_by o, shown_object o)) (query_is {text = objects_from_text} refl)
    (filter_same _ p (λ o. rw (
      same_number_of o.kind kind,
      not_below o.key from,
      and_true (is_from from o.key),
    ) refl)) (λ o. refl)
    by_key key_total (λ a b. key_values a b) (λ db c h. ascending-filter _ p c.objects (apart db c h))

entry_found : (k : ℕ) (q : List ℕ) (os : List ObjectRow) → entry_at k q (map object_entry os) ≡ object_at k q os
entry_found k q os = found-map (λ (e : ObjectEntry). e.bytes) (is_entry_at k q) object_entry os

abbrev row_at : ℕ → List ℕ → ObjectRow
row_at k q = record { id = 0; kind = k; key = q; bytes = [] }

-- whether rows of one kind reach a key
reached : (kind : ℕ) (q : List ℕ) (os : List ObjectRow)
    → AllByRecursion (λ (o : ObjectRow). (o.kind == kind) ≡ true) os
    → reaches by_key key_total (row_at kind q) (last_or None os) ≡ is_up_to (last_key (map object_entry os)) q
reached kind q [] all = refl
reached kind q (o ∷ []) all = rw (eqb-true o.kind kind all.0, tied_itself nat_cmp_total kind) refl
reached kind q (o ∷ p ∷ os) all = reached kind q (p ∷ os) all.1

-- what two limits leave
narrowed : {X V : Type 0} (f : X → V) (a b u : Bool) (o : Option X) (v : Option V) → option_map f o
    ≡ cond a v None → (a ≡ true → b ≡ u) → option_map f (cond b o None) ≡ cond (a && u) v None
narrowed f a b u o v is same = grind (arith, is, same)

module _ (kind : ℕ) (from : List ℕ) (db : Database) (c : Content) (h : HoldsContent db c) where
  abbrev p : ObjectRow → Bool
  p = is_kind_from kind from

  abbrev all : List ObjectRow
  all = sort_by by_key (filter p c.objects)

  abbrev firsts : List ObjectRow
  firsts = take 256 all

  rising : IsAscending (λ a b. by_key a b ≡ Less) all
  rising = rises-sorted by_key key_total (filter p c.objects) (ascending-filter _ p c.objects (apart db c h))

  same : (k : ℕ) (q : List ℕ) → entry_at k q (map object_entry firsts) ≡ cond ((kind == k) &&
      is_from from q && is_up_to (last_key (map object_entry firsts)) q) (object_at k q c.objects) None
  same k q =
      let t = row_at k q in
      let of_the_kind = all-take _ 256 all (all-sorted by_key _ _ (all_weaker _ (λ (o : ObjectRow).
      (o.kind == kind) ≡ true) (λ o is. (and_parts _ _ is).0) _ (all_passed p c.objects))) in
      -- at a key, the rows of the page are those of its kind from its first key on
      let passes : (o : ObjectRow) → is_object_at k q o ≡ true → p o ≡ ((kind == k) && is_from from q) =
      λ o here. let at = keys_are o.kind o.key k q here in grind (arith, at) in
      let found = find_same (is_object_at k q) (is_at by_key key_total t) (λ o. sym (key_eq o.kind o.key k q)) in
      entry_found k q firsts
      ∙ ap (option_map (λ (o : ObjectRow). o.bytes)) (found firsts ∙ firsts_find by_key key_total 255 t all rising)
      ∙ narrowed (λ o. o.bytes) ((kind == k) && is_from from q) (reaches
      by_key key_total t (last_or None firsts)) (is_up_to (last_key (map object_entry firsts)) q)
      (find (is_at by_key key_total t) all) (object_at k q c.objects)
      (ap (option_map (λ (o : ObjectRow). o.bytes)) (sym (found all)) ∙ sym (entry_found k q all)
      ∙ objects_found p k q ((kind == k) && is_from from q) passes db c h)
      (λ is. rw (← eqb-true kind k (and_parts _ _ is).0) (reached kind q firsts of_the_kind))

  pub lists_from : (found : List ObjectEntry) → found ≡ map object_entry firsts → ListsFrom kind from c found
  lists_from found is = subst (ListsFrom kind from c) (sym is) (record {
    first = refl;
    ascending = ascending-map (λ a b. by_entry a b ≡ Less)
        object_entry firsts (ascending-take (λ a b. by_key a b ≡ Less) 256 all rising);
    same = same;
  })
