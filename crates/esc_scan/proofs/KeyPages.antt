-- A page of objects, from the entries of the index of their keys.
use Rattle.std.proofs.Common.{◌≡◌, ◌≢◌, ◌⊎◌, ◌<◌, ◌==◌, ◌&&◌, ℕ, ℤ, zero, suc, pos, Bool, true, false, not}
use Rattle.std.proofs.Common.{List, [], ◌∷◌, ◌++◌, map, filter, take, length, Option, Some, None, option_map, find}
use Rattle.std.proofs.Common.{refl, sym, ap, ap₂, subst, ◌∙◌, arith, inl, inr, cond, true≢false, int_eq}
use Rattle.std.proofs.Common.{Ordering, Less, Equal, Greater, is_lt, is_gt, is_eq, IsPermutation, IsSorted}
use Rattle.std.specs.Cmp.{IsTotalOrder}
use Rattle.std.specs.Cmp.Lexicographic.{slice_cmp}
use Rattle.std.specs.List.{AllByRecursion}
use Rattle.std.specs.Ordering.{nat_cmp, ordering_then, ordering_reverse, is_ge}
use Rattle.std.proofs.lemmas.Bool.Decides.{nat_tests}
use Rattle.std.proofs.Common.{◌≤◌, ◌<ℤ◌, append-nil}
use Rattle.std.proofs.lemmas.Int.{ints}
use Rattle.std.proofs.lemmas.List.{take_all}
use Rattle.std.proofs.lemmas.List.Elements.{filter-append}
use Rattle.std.proofs.Math.Seq.{take-append_seam}
use Rattle.std.proofs.lemmas.List.Sorted.{IsPermutation-map, IsPermutation-sym}
use Rattle.std.proofs.lemmas.List.Sorted.{IsPermutation-trans}
use Rattle.sqlite_value.specs.declared.value.Value.TheVariants.{Int, Blob}
use Rattle.sqlite_value.specs.Order.{Row}
use Rattle.sqlite_value.specs.Keys.{plain, entry_cmp, prefix_cmp}
use Rattle.sqlite_value.proofs.KeyLemmas.{entry_cmp-plain, entry_cmp_total, first_key-plain}
use Rattle.sqlite_value.proofs.OrderLemmas.{value_cmp-Int, value_cmp-Blob}
use Rattle.sqlite_sql.specs.Catalog.{entry_of}
use Rattle.sqlite_trees.specs.Tree.{Trees, IsAscending, IsIndex, from_key}
use Rattle.sqlite_trees.proofs.TreeLemmas.{from_key-filter, sorted_index}
use Rattle.sqlite_keyed.specs.Keyed.{IsKeyedBy, get_by}
use Rattle.sqlite_keyed.specs.Lists.{sort_by}
use Rattle.sqlite_keyed.proofs.ListLemmas.{IsPermutation-filter, all_weaker, ascending-filter, ascending-map}
use Rattle.sqlite_keyed.proofs.ListLemmas.{all-filter, ascending_weaker, filter_all, filter_none}
use Rattle.sqlite_keyed.proofs.ListLemmas.{filter-map, filter_same, map-map, map_same}
use Rattle.sqlite_keyed.proofs.SortLemmas.{sorted_unique, IsPermutation-sort_by}
use Rattle.sqlite.specs.Effect.{Database}
use Rattle.esc_sql.specs.Rows.{ObjectRow, object_number}
use Rattle.esc_sql.specs.Schema.{store_schema, object_keys}
use Rattle.esc_sql.specs.StoreTable.{Objects, stored_row}
use Rattle.esc_sql.specs.Content.{Content, HoldsContent, AreStoreTrees}
use Rattle.esc_sql.specs.Changes.{ListsFrom, ObjectEntry, by_key, is_kind_from, object_entry}
use Rattle.esc_sql.specs.Reading.{AreRead}
use Rattle.esc_sql.proofs.Finds.{filter-and}
use Rattle.esc_sql.proofs.ObjectLemmas.{object_keys as keys_apart}
use Rattle.esc_sql.proofs.ObjectLists.{key_total, lists_from}
use Rattle.esc_sql.proofs.Sorts.{all-sorted, all-take, all_passed, number_cmp, rises-sorted, key_eq}
use Rattle.esc_scan.specs.KeyIndex.{AreFirstOf, EndsKind, HasKeys, IsKeyRead, key_entry}
use Rattle.esc_scan.specs.ObjectKeys.{object_with}
use Rattle.esc_scan.specs.declared.page.KeyEntry.{KeyEntry}

-- ---- lists that rise are sorted

module _ {X : Type 0} (cmp : X → X → Ordering) (total : IsTotalOrder cmp) where
  not_below : (a b : X) → cmp a b ≡ Less → is_lt (cmp b a) ≡ false
  not_below a b up = ap is_lt (total.antisymm b a ∙ ap ordering_reverse up)

  sorted_from_rising : (xs : List X) → IsAscending (λ a b. cmp a b ≡ Less) xs → IsSorted cmp xs
  sorted_from_rising [] up k d p q = absurd (omega arith)
  sorted_from_rising (x ∷ []) up k d p q = absurd (omega arith)
  sorted_from_rising (x ∷ y ∷ xs) up zero d p q = not_below x y up.0.0
  sorted_from_rising (x ∷ y ∷ xs) up (suc k) d p q = rw Rattle.std.proofs.Common.add-one
      (rw Rattle.std.proofs.Common.add-one at (sorted_from_rising (y ∷ xs) up.1 k d (omega arith) (omega arith)))

  -- of the orders of a list, one rises
  pub one_order : (xs ys : List X) → IsAscending (λ a b. cmp a b ≡ Less) xs
      → IsAscending (λ a b. cmp a b ≡ Less) ys → IsPermutation xs ys → ys ≡ xs
  one_order xs ys up rises same = sorted_unique cmp total xs ys up same (sorted_from_rising ys rises)

-- ---- the entries of the index

-- an order that is decided early
then_less : (a b : Ordering) → ordering_then a b ≡ Less → (c : Ordering) → ordering_then a (ordering_then b c) ≡ Less
then_less Less b up c = refl
then_less Equal Less up c = refl
then_less Equal Equal up c = absurd (cc)
then_less Equal Greater up c = absurd (cc)
then_less Greater b up c = absurd (cc)

-- objects in the order of keys have their entries in order
entry_less : (a b : ObjectRow) → by_key a b ≡ Less → entry_cmp plain (key_entry a) (key_entry b) ≡ Less
entry_less a b up =
    entry_cmp-plain (key_entry a) (key_entry b)
    ∙ rw (value_cmp-Int (pos a.kind) (pos b.kind), number_cmp a.kind b.kind, value_cmp-Blob a.key b.key)
    (then_less (nat_cmp a.kind b.kind) (slice_cmp nat_cmp a.key b.key) up _)

-- no two objects have the same key
pub objects_apart : (db : Database) (c : Content) → HoldsContent db c
    → IsAscending (λ a b. is_eq (by_key a b) ≡ false) c.objects
objects_apart db c h = ascending_weaker _ (λ a b. is_eq (by_key a b) ≡ false)
    (λ a b other. key_eq a.kind a.key b.kind b.key ∙ other) c.objects (keys_apart.apart db c h)

-- the objects in the order of their keys
abbrev pub by_keys : Content → List ObjectRow
by_keys c = sort_by by_key c.objects

abbrev pub database_of : Trees → Database
database_of store = record { schema = store_schema; trees = store }

abbrev pub holds_store : (store : Trees) (c : Content) → AreStoreTrees store c → HoldsContent (database_of store) c
holds_store store c st = record { schema_is = refl; store = st }

-- the index has an entry for each object
entries_of_objects : (trees : Trees) (c : Content) → HasKeys trees c
    → IsPermutation (map key_entry c.objects) (trees object_keys.tree)
entries_of_objects trees c (store, st, same) =
    let index : IsPermutation (map (entry_of (1 ∷ 2 ∷ [])) (store 9)) (store 10) =
    st.sound.obeys.indexed.1.1.1.1.0 in
    let rows : map (entry_of (1 ∷ 2 ∷ [])) (store 9) ≡ map key_entry c.objects =
    ap (map (entry_of (1 ∷ 2 ∷ []))) (st.rows.tables Objects)
    ∙ map-map (entry_of (1 ∷ 2 ∷ [])) (stored_row Objects) c.objects
    ∙ map_same _ key_entry (λ o. refl) c.objects in
    subst (IsPermutation (map key_entry c.objects)) (sym same)
    (subst (λ l. IsPermutation l (store 10)) rows index)

rising : (db : Database) (c : Content) → HoldsContent db c → IsAscending (λ a b. by_key a b ≡ Less) (by_keys c)
rising db c h = rises-sorted by_key key_total c.objects (objects_apart db c h)

-- its entries are those of the objects in the order of their keys
pub entries_are : (trees : Trees) (c : Content) → HasKeys trees c
    → IsIndex plain (trees object_keys.tree) → trees object_keys.tree ≡ map key_entry (by_keys c)
entries_are trees c has up =
    let entry = key_entry in
    let rises = ascending-map (λ a b. entry_cmp plain a b ≡ Less) entry (by_keys c)
    (ascending_weaker (λ a b. by_key a b ≡ Less)
    (λ a b. entry_cmp plain (entry a) (entry b) ≡ Less)
    entry_less (by_keys c) (rising (database_of has.0) c (holds_store has.0 c has.1))) in
    one_order (entry_cmp plain) (entry_cmp_total plain) (map entry (by_keys c)) (trees object_keys.tree) rises up
    (IsPermutation-trans _ _ _ (IsPermutation-map entry _ _ (IsPermutation-sort_by by_key key_total c.objects))
    (entries_of_objects trees c has))

-- ---- the first entries of a kind

module _ (kind : ℕ) (from : List ℕ) where
  abbrev start : Row
  start = Int (pos kind) ∷ Blob from ∷ []

  -- how an object's key stands to where the page begins
  abbrev place : ObjectRow → Ordering
  place o = ordering_then (nat_cmp o.kind kind) (slice_cmp nat_cmp o.key from)

  abbrev is_behind : ObjectRow → Bool
  is_behind o = not (is_lt (place o))

  abbrev of_kind : ObjectRow → Bool
  of_kind o = o.kind == kind

  then_equal : (o : Ordering) → ordering_then o Equal ≡ o
  then_equal o = grind arith

  placed : (o : ObjectRow) → prefix_cmp plain (key_entry o) start ≡ place o
  placed o = rw first_key-plain (rw (
    value_cmp-Int (pos o.kind) (pos kind),
    number_cmp o.kind kind,
    value_cmp-Blob o.key from,
    then_equal (slice_cmp nat_cmp o.key from),
  ) refl)

  -- what a cursor has left from there on
  pub left_from : (trees : Trees) (c : Content) → HasKeys trees c → IsIndex plain (trees object_keys.tree)
      → from_key plain start (trees object_keys.tree) ≡ map key_entry (filter is_behind (by_keys c))
  left_from trees c has up =
      from_key-filter plain start (trees object_keys.tree) (sorted_index plain _ up)
      ∙ ap (filter (λ e. not (is_lt (prefix_cmp plain e start)))) (entries_are trees c has up)
      ∙ filter-map (λ e. not (is_lt (prefix_cmp plain e start))) key_entry (by_keys c)
      ∙ ap (map key_entry) (filter_same _ is_behind (λ o. ap (λ (r : Ordering). not (is_lt r)) (placed o)) (by_keys c))

  of_the_kind : (k : ℕ) → k ≡ kind → (k == kind) ≡ true
  of_the_kind k is = grind (arith, nat_tests, is)

  -- the objects whose entries were read, and those that are left
  record AreFirst (os : List ObjectRow) (read : List KeyEntry) (rest : List Row) : Type 0 where
    first : List ObjectRow
    others : List ObjectRow
    whole : os ≡ first ++ others
    rowids : map (λ (it : KeyEntry). it.rowid) read ≡ map (λ (o : ObjectRow). pos o.id) first
    all : AllByRecursion (λ (o : ObjectRow). of_kind o ≡ true) first
    long : length read ≡ length first
    left : rest ≡ map key_entry others

  first_of : (os : List ObjectRow) (given rest : List Row) (read : List KeyEntry)
      → map key_entry os ≡ given ++ rest → AreRead IsKeyRead given read
      → AllByRecursion (λ (it : KeyEntry). it.kind ≡ kind) read → AreFirst os read rest
  first_of os [] rest [] whole are all = record {
    first = [];
    others = os;
    whole = refl;
    rowids = refl;
    all = tt;
    long = refl;
    left = sym whole;
  }
  first_of (o ∷ os) (row ∷ given) rest (it ∷ read) whole are all =
      let tail : map key_entry os ≡ given ++ rest = cc in
      let more = first_of os given rest read tail are.1 all.1 in
      let here : row ≡ key_entry o = cc in
      let (same, id) = are.0 o here in
      record {
        first = o ∷ more.first;
        others = more.others;
        whole = ap (λ l. o ∷ l) more.whole;
        rowids = ap₂ ◌∷◌ id more.rowids;
        all = (of_the_kind o.kind (sym same ∙ all.0), more.all);
        long = ap suc more.long;
        left = more.left;
      }
  first_of [] (row ∷ given) rest read whole are all = absurd cc
  first_of os [] rest (it ∷ read) whole are all = absurd are
  first_of os (row ∷ given) rest [] whole are all = absurd are

  -- no object is of the kind after one of another kind
  none_of_kind : (os : List ObjectRow) → IsAscending (λ a b. by_key a b ≡ Less) os
      → AllByRecursion (λ (o : ObjectRow). is_behind o ≡ true) os → EndsKind kind (map key_entry os)
      → filter of_kind os ≡ []
  none_of_kind [] up behind ends = refl
  none_of_kind (o ∷ os) up behind (it, read, other) =
      let apart : o.kind ≢ kind = λ is. other ((read o refl).0 ∙ is) in
      let above : kind < o.kind = first_above o apart behind.0 in
      filter_none of_kind (o ∷ os) (
        not_of_kind o above,
        all_weaker (λ b. by_key o b ≡ Less) (λ b. of_kind b ≡ false)
            (λ b less. not_of_kind b (still_above o b above less)) os up.0,
      )
    where
      first_above : (o : ObjectRow) → o.kind ≢ kind → is_behind o ≡ true → kind < o.kind
      first_above o apart here = by_order (nat_cmp o.kind kind) refl here
        where
          by_order : (r : Ordering) → nat_cmp o.kind kind ≡ r
              → not (is_lt (ordering_then r (slice_cmp nat_cmp o.key from))) ≡ true → kind < o.kind
          by_order Less e here = absurd (true≢false (sym here))
          by_order Equal e here = absurd (apart (grind (arith, nat_tests, e)))
          by_order Greater e here = grind (arith, nat_tests, e)

      not_of_kind : (o : ObjectRow) → kind < o.kind → of_kind o ≡ false
      not_of_kind o above = grind (arith, nat_tests, above)

      still_above : (a b : ObjectRow) → kind < a.kind → by_key a b ≡ Less → kind < b.kind
      still_above a b above less = by_order (nat_cmp a.kind b.kind) refl less
        where
          by_order : (r : Ordering) → nat_cmp a.kind b.kind ≡ r
              → ordering_then r (slice_cmp nat_cmp a.key b.key) ≡ Less → kind < b.kind
          by_order Less e less = grind (arith, nat_tests, e, above)
          by_order Equal e less = grind (arith, nat_tests, e, above)
          by_order Greater e less = absurd (cc)

  all_of_kind : (os : List ObjectRow) → AllByRecursion (λ (o : ObjectRow). of_kind o ≡ true) os → filter of_kind os ≡ os
  all_of_kind os all = filter_all of_kind os all

  module _ (store : Trees) (c : Content) (st : AreStoreTrees store c) where
    abbrev db : Database
    db = database_of store

    held : HoldsContent db c
    held = holds_store store c st

    abbrev here : ObjectRow → Bool
    here = is_kind_from kind from

    -- those of the kind, of what comes from there on
    same_test : (o : ObjectRow) → (is_behind o && of_kind o) ≡ here o
    same_test o = by_order (nat_cmp o.kind kind) refl
      where
        by_order : (r : Ordering) → nat_cmp o.kind kind ≡ r
            → (not (is_lt (ordering_then r (slice_cmp nat_cmp o.key from))) && of_kind o) ≡ here o
        by_order Less e = let is : of_kind o ≡ false = grind (arith, nat_tests, e) in rw is refl
        by_order Equal e = let is : of_kind o ≡ true = grind (arith, nat_tests, e) in
            rw is (not_less (slice_cmp nat_cmp o.key from))
          where
            not_less : (r : Ordering) → (not (is_lt r) && true) ≡ (true && is_ge r)
            not_less Less = refl
            not_less Equal = refl
            not_less Greater = refl
        by_order Greater e = let is : of_kind o ≡ false = grind (arith, nat_tests, e) in rw is refl

    pub wanted : filter of_kind (filter is_behind (by_keys c)) ≡ sort_by by_key (filter here c.objects)
    wanted =
        let sorted = sort_by by_key (filter here c.objects) in
        let up = rising db c held in
        filter-and of_kind is_behind (by_keys c) ∙ filter_same _ here same_test (by_keys c)
        ∙ sym (one_order by_key key_total (filter here (by_keys c)) sorted
        (ascending-filter (λ a b. by_key a b ≡ Less) here (by_keys c) up)
        (rises-sorted by_key key_total (filter here c.objects)
        (ascending-filter (λ a b. is_eq (by_key a b) ≡ false) here c.objects (objects_apart db c held)))
        (IsPermutation-trans _ _ _
        (IsPermutation-filter here _ _ (IsPermutation-sort_by by_key key_total c.objects))
        (IsPermutation-sym _ _ (IsPermutation-sort_by by_key key_total (filter here c.objects)))))

    -- the first objects are those whose entries were read
    firsts_are : (rows : List Row) (read : List KeyEntry) → rows ≡ map key_entry (filter is_behind (by_keys c))
        → AreFirstOf kind rows read
        → map (λ (it : KeyEntry). it.rowid) read
        ≡ map (λ (o : ObjectRow). pos o.id) (take 256 (sort_by by_key (filter here c.objects)))
    firsts_are rows read left are =
        let behind = filter is_behind (by_keys c) in
        let f = first_of behind are.given are.rest read (sym left ∙ are.whole) are.are are.of_kind in
        let up = ascending-filter (λ a b. by_key a b ≡ Less) is_behind (by_keys c) (rising db c held) in
        let all_behind = all_passed is_behind (by_keys c) in
        let others = parted f.first f.others behind f.whole up all_behind in
        let of_both : filter of_kind behind ≡ f.first ++ filter of_kind f.others =
        ap (filter of_kind) f.whole ∙ filter-append of_kind f.first f.others
        ∙ ap (λ l. l ++ filter of_kind f.others) (all_of_kind f.first f.all) in
        let few : length f.first ≤ 256 = omega (
          arith,
          are.few,
          f.long,
        ) in
        let page : take 256 (filter of_kind behind) ≡ f.first = elim are.ends [
          | inl full ↦
              let long : length f.first ≡ 256 = sym f.long ∙ full in
              ap (take 256) of_both ∙ ap (λ n. take n (f.first ++ filter of_kind f.others)) (sym long)
              ∙ take-append_seam f.first (filter of_kind f.others)
          | inr ends ↦
              let none = none_of_kind f.others others.0 others.1 (subst (EndsKind kind) f.left ends) in
              ap (take 256) (of_both ∙ ap (λ l. f.first ++ l) none ∙ append-nil f.first)
              ∙ take_all 256 f.first few
        ] in
        f.rowids ∙ ap (map (λ (o : ObjectRow). pos o.id)) (sym page ∙ ap (take 256) wanted)
      where
        parted : (xs ys os : List ObjectRow) → os ≡ xs ++ ys → IsAscending (λ a b. by_key a b ≡ Less) os
            → AllByRecursion (λ (o : ObjectRow). is_behind o ≡ true) os
            → IsAscending (λ a b. by_key a b ≡ Less) ys × AllByRecursion (λ (o : ObjectRow). is_behind o ≡ true) ys
        parted [] ys os whole up all = (
          subst (IsAscending (λ a b. by_key a b ≡ Less)) whole up,
          subst (AllByRecursion (λ (o : ObjectRow). is_behind o ≡ true)) whole all,
        )
        parted (x ∷ xs) ys [] whole up all = absurd cc
        parted (x ∷ xs) ys (o ∷ os) whole up all =
            let tail : os ≡ xs ++ ys = cc in
            parted xs ys os tail up.1 all.1

    -- the object is the one with its rowid
    abbrev found_at : ObjectRow → Type 0
    found_at o = object_with (pos o.id) c.objects ≡ Some (object_entry o)

    -- the objects of these entries are a page
    pub page_lists : (rows : List Row) (read : List KeyEntry) (found : List ObjectEntry)
        → rows ≡ map key_entry (filter is_behind (by_keys c)) → AreFirstOf kind rows read
        → map (λ (e : ObjectEntry). Some e) found ≡ map (λ (it : KeyEntry). object_with it.rowid c.objects) read
        → ListsFrom kind from c found
    page_lists rows read found left are told =
        let firsts = take 256 (sort_by by_key (filter here c.objects)) in
        lists_from kind from db c held found
        (same_entries firsts found (told ∙ sym (map-map (λ id. object_with id c.objects)
        (λ (it : KeyEntry). it.rowid) read)
        ∙ ap (map (λ id. object_with id c.objects)) (firsts_are rows read left are)
        ∙ map-map (λ id. object_with id c.objects) (λ (o : ObjectRow). pos o.id) firsts)
        (all-take found_at 256 _ (all-sorted by_key found_at _ (all-filter found_at here c.objects each_there))))
      where
        same_entries : (os : List ObjectRow) (es : List ObjectEntry)
            → map (λ (e : ObjectEntry). Some e) es ≡ map (λ (o : ObjectRow). object_with (pos o.id) c.objects) os
            → AllByRecursion found_at os → es ≡ map object_entry os
        same_entries [] [] same all = refl
        same_entries (o ∷ os) (e ∷ es) same all =
            let head : Some e ≡ object_with (pos o.id) c.objects = cc in
            let both : Some e ≡ Some (object_entry o) = head ∙ all.0 in
            let here : e ≡ object_entry o = cc in
            let tail : map (λ (x : ObjectEntry). Some x) es
            ≡ map (λ (x : ObjectRow). object_with (pos x.id) c.objects) os = cc in
            ap₂ ◌∷◌ here (same_entries os es tail all.1)
        same_entries [] (e ∷ es) same all = absurd cc
        same_entries (o ∷ os) [] same all = absurd cc

        itself : (os : List ObjectRow) → IsKeyedBy object_number os
            → AllByRecursion (λ (o : ObjectRow). get_by object_number os (pos o.id) ≡ Some o) os
        itself [] up = tt
        itself (o ∷ os) up = (
          rw (same_number (pos o.id)) refl,
          all_both (λ (b : ObjectRow). object_number o <ℤ object_number b)
              (λ (b : ObjectRow). get_by object_number os (pos b.id) ≡ Some b)
              (λ (b : ObjectRow). get_by object_number (o ∷ os) (pos b.id) ≡ Some b)
              (λ b above there. rw (other_number (pos o.id) (pos b.id) above) there) os up.0 (itself os up.1),
        )
          where
            same_number : (n : ℤ) → int_eq n n ≡ true
            same_number n = grind (arith, ints)

            other_number : (a b : ℤ) → a <ℤ b → int_eq a b ≡ false
            other_number a b above = grind (arith, ints, above)

            all_both : {X : Type 0} (P Q R : X → Type 0) → ((x : X) → P x → Q x → R x) → (xs : List X)
                → AllByRecursion P xs → AllByRecursion Q xs → AllByRecursion R xs
            all_both P Q R f [] p q = tt
            all_both P Q R f (x ∷ xs) p q = (f x p.0 q.0, all_both P Q R f xs p.1 q.1)

        each_there : AllByRecursion found_at c.objects
        each_there = all_weaker (λ (o : ObjectRow). get_by object_number c.objects (pos o.id) ≡ Some o) found_at
            (λ o there. ap (option_map object_entry) there) c.objects (itself c.objects (st.ordered Objects))
