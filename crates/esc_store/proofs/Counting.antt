-- How many objects of a kind there are, from the kinds of the table's rows.
use Rattle.esc_store.proofs.Common.{◌≡◌, ℕ, Bool, true, false, cond, List, [], ◌∷◌, filter, map, Option}
use Rattle.esc_store.proofs.Common.{None, Some, refl, sym, ap, subst, ◌∙◌, ◌==◌, ◌&&◌, bytes_eq, find}
use Rattle.esc_store.proofs.Common.{IsSome, IfSome, is_some}
use Rattle.esc_store.proofs.Common.{AllByRecursion, lookup, keys_of, option_and_then, unwrap_or, arith}
use Rattle.esc_store.proofs.Common.{nat_tests, eqb-true, length-map, All-from_recursion, Kind}
use Rattle.esc_store.proofs.Common.{Registrar, Contact, Host, Domain, Idn, Nndn}
use Rattle.esc_store.proofs.Common.{kind_rank, KeyName, key_eq, ObjectValue, record_of, State}
use Rattle.esc_store.proofs.Common.{keys_alike, ObjectRow, Content, tallies, AreCounts, IsRegistry}
use Rattle.std.specs.List.{IsDistinct, list_any}
use Rattle.std.specs.Set.{is_member}
use Rattle.std.proofs.lemmas.Map.Made.{update_all_none, update_all_pairs}
use Rattle.std.proofs.lemmas.List.Elements.{filter_passes, recursion_from_All}
use Rattle.sqlite_keyed.proofs.ListLemmas.{map_back, all_map, all_both, ascending-filter}
use Rattle.sqlite_keyed.proofs.SliceLemmas.{any_is_found, is_some-map}
use Rattle.esc_apply.specs.Registry.{HasSize}
use Rattle.esc_bundle.specs.ListLaws.{list_any_map}
use Rattle.esc_sql.specs.Content.{is_object_at}
use Rattle.esc_sql.specs.Changes.{HaveOwnKeys, ListsKinds}
use Rattle.esc_store.specs.Decoded.{times}
use Rattle.esc_store.specs.StoreState.{of_kind}
use Rattle.esc_tables.specs.KeyLaws.{one_key}
use Rattle.esc_store.proofs.Gathering.{record_here}
use Rattle.esc_store.proofs.Registries.{same_tests}

no_object : ObjectValue
no_object = record { parent = record { table = []; cells = [] }; children = [] }

-- a row passes both tests
any_of : {X : Type 0} (p q r : X → Bool)
    → ((x : X) → (p x && q x) ≡ r x) → (xs : List X) → list_any q (filter p xs) ≡ list_any r xs
any_of p q r same [] = refl
any_of p q r same (x ∷ xs) = grind (arith, any_of p q r same xs, same x)

none_at : {X : Type 0} (xs : List X) → find (λ (x : X). false) xs ≡ None
none_at [] = refl
none_at (x ∷ xs) = none_at xs

turned : (a k q : ℕ) (b : Bool) → ((a == k) && ((k == q) && b)) ≡ ((q == k) && ((a == q) && b))
turned a k q b = grind (arith, nat_tests)

module _ (s : State) (c : Content)
    (it : IsRegistry c s) (numbers : List ℕ) (lists : ListsKinds c numbers) (kind : Kind) where
  abbrev is_it : ObjectRow → Bool
  is_it o = o.kind == kind_rank kind

  abbrev key : ObjectRow → KeyName
  key o = record { kind = kind; text = o.key }

  abbrev value : KeyName → ObjectValue
  value q = unwrap_or (s.content q) no_object

  -- the keys of the rows of the kind
  abbrev keys : List KeyName
  keys = map key (filter is_it c.objects)

  -- each once
  once : (os : List ObjectRow)
      → AllByRecursion (λ o. is_it o ≡ true) os → HaveOwnKeys os → IsDistinct key_eq (map key os)
  unfolding IsDistinct
  once [] of own = tt
  once (a ∷ os) of own = (
    all_map (λ q. key_eq (key a) q ≡ false) key os (all_both (λ o. is_it o ≡ true)
        (λ (b : ObjectRow). is_object_at b.kind b.key a ≡ false) (λ b. key_eq (key a) (key b) ≡ false)
        (λ b also apart. same_tests (key a) (key b) ∙ (rw (
          eqb-true a.kind (kind_rank kind) of.0,
          eqb-true b.kind (kind_rank kind) also,
        ) at apart)) os of.1 own.0),
    once os of.1 own.1,
  )

  -- a row's test for a key
  test : (q : KeyName) (o : ObjectRow) → (is_it o && key_eq q (key o))
      ≡ ((kind_rank q.kind == kind_rank kind) && is_object_at (kind_rank q.kind) q.text o)
  test q o = rw (keys_alike.symm q (key o), same_tests (key o) q)
      (turned o.kind (kind_rank kind) (kind_rank q.kind) (bytes_eq o.key q.text))

  same_some : (o : Option ObjectValue)
      → IfSome o (λ x. IsSome (record_of x)) → is_some (option_and_then record_of o) ≡ is_some o
  same_some None has = refl
  same_some (Some x) has = has

  found : (q : KeyName) (b : Bool) → is_some (find (λ o. b && is_object_at (kind_rank q.kind) q.text o)
      c.objects) ≡ is_some (cond b (s.content q) None)
  found q true = sym (is_some-map (λ (o : ObjectRow). o.bytes)
      (find (is_object_at (kind_rank q.kind) q.text) c.objects)) ∙ (ap is_some (it.objects
      (kind_rank q.kind) q.text ∙ record_here s.content q) ∙ same_some (s.content q) (it.recorded q))
  found q false = ap is_some (none_at c.objects)

  among : (q : KeyName) → is_member key_eq keys q
      ≡ is_some (cond (kind_rank q.kind == kind_rank kind) (s.content q) None)
  among q = list_any_map (key_eq q) key (filter is_it c.objects)
      ∙ (any_of is_it (λ o. key_eq q (key o)) _ (test q) c.objects
      ∙ (any_is_found _ c.objects ∙ found q (kind_rank q.kind == kind_rank kind)))

  back : (b : Bool) (o : Option ObjectValue)
      → cond (is_some (cond b o None)) (Some (unwrap_or o no_object)) None ≡ cond b o None
  back true None = refl
  back true (Some x) = refl
  back false o = refl

  has_size : HasSize (of_kind kind s.content) (times kind numbers)
  has_size = (
    entries,
    record { once = distinct; each = each },
    length-map keys _
        ∙ (length-map (filter is_it c.objects) key ∙ sym (lists.counts (kind_rank kind))),
  ) where
    entries : List (KeyName × ObjectValue)
    entries = map (λ q. (q, value q)) keys

    distinct : IsDistinct key_eq (keys_of entries)
    distinct = subst (IsDistinct key_eq) (sym (map_back (λ (q : KeyName). (q, value q))
        (λ (e : KeyName × ObjectValue). e.0) (λ _. refl) keys))
        (once (filter is_it c.objects) (recursion_from_All _ _ (filter_passes is_it c.objects))
        (ascending-filter _ is_it c.objects lists.own))

    each : (q : KeyName) → lookup (key_eq q) entries ≡ of_kind kind s.content q
    each q = sym (update_all_none keys_alike key_eq (λ _ _. refl) entries q distinct)
        ∙ (update_all_pairs keys_alike value (λ x y same. ap value (one_key x y same)) keys q
        ∙ (ap (λ b. cond b (Some (value q)) None) (among q)
        ∙ back (kind_rank q.kind == kind_rank kind) (s.content q)))

-- the tallies of the kinds in the table are the counts of its objects
pub are_counts : (c : Content) (s : State) (numbers : List ℕ) (counts : List (Kind × ℕ))
    → IsRegistry c s → ListsKinds c numbers → counts ≡ tallies numbers → AreCounts s.content counts
are_counts c s numbers counts it lists is = let sized = has_size s c it numbers lists in
    subst (AreCounts s.content) (sym is) (record {
      kinds = refl;
      each = All-from_recursion (λ (n : Kind × ℕ). HasSize (of_kind n.0 s.content) n.1) (tallies numbers)
          (sized Registrar, (sized Contact, (sized Host, (sized Domain, (sized Idn, (sized Nndn, tt))))));
    })
