-- The tables of any deposits have a listing: the keys that the deposits mention, each where the
-- tables have an object.
use Rattle.std.proofs.Common.{◌≡◌, Bool, true, false, cond, ◌&&◌, ◌||◌, T, true≢false, List, []}
use Rattle.std.proofs.Common.{◌∷◌, reverse, Option, Some, None, refl, sym, ap, ◌∙◌}
use Rattle.std.specs.declared.cmp.Ordering.{Ordering}
use Rattle.std.specs.declared.cmp.Ordering.TheVariants.{Less, Equal, Greater}
use Rattle.std.specs.FinMap.Entries as entries
use Rattle.std.specs.List.{AllByRecursion, find, flat_map, list_any}
use Rattle.std.specs.List.Sorted.{IsStrictlySortedBy}
use Rattle.std.specs.Map.{lookup, keys_of}
use Rattle.std.specs.Option.{option_and_then}
use Rattle.std.specs.Ordering.{is_lt}
use Rattle.std.proofs.lemmas.List.Folds.{list_any-append}
use Rattle.std.proofs.lemmas.Map.Keys.{IsDistinct-from_sorted}
use Rattle.esc_tables.specs.KeyName.{KeyName, key_cmp, key_eq}
use Rattle.esc_tables.specs.ObjectValue.{ObjectValue}
use Rattle.esc_tables.specs.DepositValue.{DepositValue}
use Rattle.esc_apply.specs.ObjectStreams.{Entry, InOrder}
use Rattle.esc_apply.specs.Registry.{ObjectsByKey, IsEntriesOf}
use Rattle.esc_apply.specs.Tables.{mentioned, mentions, says, tables}
use Rattle.esc_tables.specs.KeyLaws.{keys_total, one_key}

-- ---- entries in order
split : (a b : Bool) → T (a && b) → T a × T b
split true b h = (tt, h)
split false b h = absurd h

less : (o : Ordering) → T (is_lt o) → o ≡ Less
less Less h = refl
less Equal h = absurd h
less Greater h = absurd h

below : (k : KeyName) (es : List Entry)
    → T (entries.below_all key_cmp k es) → AllByRecursion (λ y. key_cmp k y ≡ Less) (keys_of es)
below k [] h = tt
below k (e ∷ es) h = let parts = split (is_lt (key_cmp k e.0)) (entries.below_all key_cmp k es) h in
    (less (key_cmp k e.0) parts.0, below k es parts.1)

in_order : (es : List Entry) → T (entries.is_sorted key_cmp es) → InOrder es
unfolding IsStrictlySortedBy
in_order [] h = tt
in_order (e ∷ es) h = let parts = split (entries.below_all key_cmp e.0 es)
    (entries.is_sorted key_cmp es) h in (below e.0 es parts.0, in_order es parts.1)

is_lookup : (q : KeyName) (es : List Entry) → lookup (key_eq q) es ≡ entries.find key_cmp q es
is_lookup q [] = refl
is_lookup q (e ∷ es) = ap (cond (key_eq q e.0) (Some e.1)) (is_lookup q es)

-- ---- the entries of a content at some keys
abbrev add : KeyName → Option ObjectValue → List Entry → List Entry
add k None es = es
add k (Some o) es = entries.put key_cmp k o es

abbrev listed : ObjectsByKey → List KeyName → List Entry
listed f [] = []
listed f (k ∷ ks) = add k (f k) (listed f ks)

sorted_add : (k : KeyName) (o : Option ObjectValue) (es : List Entry)
    → T (entries.is_sorted key_cmp es) → T (entries.is_sorted key_cmp (add k o es))
sorted_add k None es h = h
sorted_add k (Some o) es h = entries.is_sorted-put key_cmp keys_total k o es h

sorted_listed : (f : ObjectsByKey) (ks : List KeyName) → T (entries.is_sorted key_cmp (listed f ks))
sorted_listed f [] = tt
sorted_listed f (k ∷ ks) = sorted_add k (f k) (listed f ks) (sorted_listed f ks)

-- what is found once an entry is added, if its key is the one that is looked for
abbrev added : Bool → Option ObjectValue → Option ObjectValue → Option ObjectValue
added here None found = found
added here (Some o) found = cond here (Some o) found

found_add : (q k : KeyName) (o : Option ObjectValue) (es : List Entry)
    → entries.find key_cmp q (add k o es) ≡ added (key_eq q k) o (entries.find key_cmp q es)
found_add q k None es = refl
found_add q k (Some o) es = entries.find-put key_cmp keys_total q k o es

added_is : (here there : Bool) (o is found : Option ObjectValue) → (here ≡ true → is ≡ o)
    → found ≡ cond there is None → added here o found ≡ cond (here || there) is None
added_is false there None is found same known = known
added_is false there (Some o) is found same known = known
added_is true there (Some o) is found same known = sym (same refl)
added_is true there None is found same known = known ∙ either there is (same refl)
  where
    either : (b : Bool) (w : Option ObjectValue) → w ≡ None → cond b w None ≡ w
    either true w e = refl
    either false w e = sym e

found : (f : ObjectsByKey) (ks : List KeyName) (q : KeyName)
    → entries.find key_cmp q (listed f ks) ≡ cond (list_any (key_eq q) ks) (f q) None
found f [] q = refl
found f (k ∷ ks) q =
    found_add q k (f k) (listed f ks)
    ∙ added_is (key_eq q k) (list_any (key_eq q) ks)
    (f k) (f q) (entries.find key_cmp q (listed f ks)) (λ e. ap f (one_key q k e)) (found f ks q)

-- ---- the keys that deposits mention
abbrev all_mentioned : List DepositValue → List KeyName
all_mentioned = flat_map mentioned

not_said : (q : KeyName) (ds : List DepositValue) → list_any (key_eq q) (all_mentioned ds) ≡ false
    → option_and_then (says q) (find (mentions q) ds) ≡ None
not_said q [] h = refl
not_said q (d ∷ ds) h =
    by_test (mentions q d) (list_any (key_eq q) (all_mentioned ds))
    (sym (list_any-append (key_eq q) (mentioned d) (all_mentioned ds)) ∙ h) (not_said q ds)
  where
    by_test : (a b : Bool) → (a || b) ≡ false
        → (b ≡ false → option_and_then (says q) (find (mentions q) ds) ≡ None)
        → option_and_then (says q) (cond a (Some d) (find (mentions q) ds)) ≡ None
    by_test true b e rest = absurd (true≢false e)
    by_test false b e rest = rest e

kept : (b : Bool) (o : Option ObjectValue) → (b ≡ false → o ≡ None) → cond b o None ≡ o
kept true o none = refl
kept false o none = sym (none refl)

-- the tables of deposits can be listed in order
pub tables_listed : (ds : List DepositValue) → (es : List Entry) × InOrder es × IsEntriesOf (tables ds) es
tables_listed ds =
    let keys = all_mentioned (reverse ds) in
    let es = listed (tables ds) keys in
    let order : InOrder es = in_order es (sorted_listed (tables ds) keys) in (
      es,
      order,
      record {
        once = IsDistinct-from_sorted key_cmp (keys_of es) order;
        each = λ q. is_lookup q es ∙ found (tables ds) keys q
            ∙ kept (list_any (key_eq q) keys) (tables ds q) (not_said q (reverse ds));
      },
    )
