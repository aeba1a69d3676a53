-- What the rows that a reader scans say.
use Rattle.esc_store.proofs.Common.{◌≡◌, ℕ, suc, ◌+◌, ◌<◌, ◌==◌, true, false, List, [], ◌∷◌}
use Rattle.esc_store.proofs.Common.{length, filter, map, Option, Some, refl, sym, ap, ap₂, subst, ◌∙◌}
use Rattle.esc_store.proofs.Common.{arith, length-map, get_or-map, bytes_eq, and_parts}
use Rattle.esc_store.proofs.Common.{All-from_recursion, AllByRecursion, IsSorted, nat_cmp, Kind}
use Rattle.esc_store.proofs.Common.{kind_rank, State}
use Rattle.esc_store.proofs.Common.{ReceiptValue, receipts_from, Content, HoldsContent, Database}
use Rattle.esc_store.proofs.Common.{StoreState, IsBooks, IsRegistry, AreCounts, AreParked, tallies}
use Rattle.esc_store.proofs.Common.{parked_at}
use Rattle.esc_store.proofs.Common.{ReceiptRow, ObjectRow, slice_cmp}
use Rattle.std.specs.Prelude.{IsPermutation, All}
use Rattle.std.specs.List.Sorted.{IsSortedByKey}
use Rattle.std.specs.declared.cmp.Ordering.{Ordering}
use Rattle.std.proofs.lemmas.Cmp.{nat_list_cmp_total, nat_list_eq_equiv, on_total}
use Rattle.std.proofs.lemmas.List.Sorted.{All-permutation, IsPermutation-map, IsPermutation-trans}
use Rattle.sqlite_keyed.specs.Lists.{sort_by}
use Rattle.sqlite_keyed.specs.Rules.{AreApart}
use Rattle.sqlite_keyed.proofs.ListLemmas.{map-map}
use Rattle.sqlite_keyed.proofs.SortLemmas.{sorted_unique, IsPermutation-sort_by}
use Rattle.sqlite_value.specs.Keys.{first_key}
use Rattle.esc_sql.specs.Changes.{by_key}
use Rattle.esc_sql.specs.Parked.{by_digest, parked_digest}
use Rattle.esc_sql.specs.Rows.{ParkedRow}
use Rattle.esc_sql.specs.StoreTable.{Parked}
use Rattle.esc_sql.proofs.Finds.{IsKey, unique_key}
use Rattle.esc_sql.proofs.ObjectLists.{lists_kinds}
use Rattle.esc_sql.proofs.ParkedLemmas.{lists_parked}
use Rattle.esc_sql.proofs.Scan.{same_blob, and_true}
use Rattle.esc_scan.specs.Bodies.{parked_size, size_of_parked}
use Rattle.esc_scan.specs.Kinds.{kind_of_object}
use Rattle.esc_scan.specs.declared.parked.ParkedSize.{ParkedSize}
use Rattle.esc_store.specs.declared.parked.ParkedBody.{ParkedBody}
use Rattle.esc_store.specs.Decoded.{times, tallies_of, all_kinds}
use Rattle.esc_store.specs.Parks.{IsParkedBody, AreParkedBodies}
use Rattle.esc_store.specs.Reading.{parked_read}
use Rattle.esc_store.proofs.Counting.{are_counts}
use Rattle.esc_store.proofs.Parking.{are_parked}

-- ---- receipts

as_many : (n : ℕ) (rs : List ReceiptValue) → length (receipts_from n rs) ≡ length rs
as_many n [] = refl
as_many n (r ∷ rs) = omega (arith, as_many (suc n) rs)

-- as many as there are receipts
pub counted : {V Y : Type 0} (shown : V → Y)
    (told : ReceiptRow → Y) (found : List V) (rows : List ReceiptRow) (rs : List ReceiptValue)
    → map shown found ≡ map told rows → rows ≡ receipts_from 1 rs → length found ≡ length rs
counted shown told found rows rs says books =
    sym (length-map found shown) ∙ ap length says ∙ length-map rows told ∙ ap length books ∙ as_many 1 rs

-- ---- parked bodies

parked_keys : IsKey Parked (λ p. p.digest) bytes_eq
unfolding first_key
parked_keys = unique_key Parked (1 ∷ []) _ bytes_eq nat_list_eq_equiv (λ a b. rw (
  same_blob a.digest
      b.digest,
  and_true (bytes_eq a.digest b.digest),
) refl) (λ trees row h. (and_parts _ true h).0)

-- the body of this row is the one that is parked under its digest
abbrev IsOwn : List ParkedRow → ParkedRow → Type 0
IsOwn all p = parked_at p.digest all ≡ Some p.body

-- after a row of another digest than theirs
own_behind : (p : ParkedRow) (all ps : List ParkedRow)
    → AllByRecursion (λ (q : ParkedRow). bytes_eq p.digest q.digest ≡ false) ps
    → AllByRecursion (IsOwn all) ps → AllByRecursion (IsOwn (p ∷ all)) ps
own_behind p all [] apart own = tt
own_behind p all (q ∷ ps) apart own = (rw apart.0 own.0, own_behind p all ps apart.1 own.1)

own_of : (ps : List ParkedRow)
    → AreApart (λ (a b : ParkedRow). bytes_eq a.digest b.digest) ps → AllByRecursion (IsOwn ps) ps
own_of [] apart = tt
own_of (p ∷ ps) apart = (rw (nat_list_eq_equiv.refl p.digest) refl, own_behind p ps ps apart.0 (own_of ps apart.1))

-- a row's body, by its length
abbrev parked_kept : ParkedRow → ParkedBody
parked_kept p = record { digest = p.digest; bytes = length p.body }

-- the parked body of a digest and a length
abbrev parked_as : List ℕ × ℕ → ParkedBody
parked_as p = record { digest = p.0; bytes = p.1 }

bodies_are : (found : List ParkedSize) (rows : List ParkedRow)
    → map parked_size found ≡ map size_of_parked rows → map parked_read found ≡ map parked_kept rows
bodies_are [] [] says = refl
bodies_are [] (r ∷ rows) says = absurd cc
bodies_are (p ∷ found) [] says = absurd cc
bodies_are (p ∷ found) (r ∷ rows) says =
    let first : parked_size p ≡ size_of_parked r = cc in
    let more : map parked_size found ≡ map size_of_parked rows = cc in
    ap₂ ◌∷◌ (ap parked_as first) (bodies_are found rows more)

module _ (parked : List ℕ → Option (List ℕ))
    (all : List ParkedRow) (same : (digest : List ℕ) → parked_at digest all ≡ parked digest) where
  each_parked : (ps : List ParkedRow)
      → AllByRecursion (IsOwn all) ps → AllByRecursion (IsParkedBody parked) (map parked_kept ps)
  each_parked [] own = tt
  each_parked (p ∷ ps) own = ((p.body, sym (same p.digest) ∙ own.0, refl), each_parked ps own.1)

abbrev digest_in : ParkedBody → List ℕ
digest_in b = b.digest

-- what is in the order of a key has its keys in order
pub sorted_keys : {X K : Type 0} (key : X → K) (cmp : K → K → Ordering) (xs : List X)
    → IsSortedByKey key cmp xs → IsSorted cmp (map key xs)
sorted_keys key cmp [] up k d low within = absurd (omega (arith, within))
sorted_keys key cmp (x ∷ xs) up k d low within =
    let inside : k + 1 < length (x ∷ xs) = omega (arith, within, length-map (x ∷ xs) key) in
    rw (
      get_or-map key (x ∷ xs) k x d (omega (arith, inside)),
      get_or-map key (x ∷ xs) (k + 1) x d inside,
    ) (up k x low inside)

-- the parked bodies that were scanned, in the order of digests
pub parked_sorted : (db : Database)
    (k : StoreState) (c : Content) (found : List ParkedSize) (bodies : List ParkedBody)
    → HoldsContent db c → IsBooks c k → map parked_size found ≡ map size_of_parked c.parked
    → IsPermutation (map parked_read found) bodies
    → IsSortedByKey digest_in (slice_cmp nat_cmp) bodies → AreParkedBodies k.parked bodies
parked_sorted db k c found bodies holds books says turned up = record { digests = digests; each = each } where
  kept : IsPermutation (map parked_kept c.parked) bodies
  kept = subst (λ l. IsPermutation l bodies) (bodies_are found c.parked says) turned

  each : All (IsParkedBody k.parked) bodies
  each = All-permutation (IsParkedBody k.parked) _ bodies kept (All-from_recursion _ _ (each_parked
      k.parked c.parked books.parked c.parked (own_of c.parked (parked_keys.apart db c holds))))

  digests : AreParked k.parked (map digest_in bodies)
  digests =
      let inorder = map parked_digest (sort_by by_digest c.parked) in
      let lists = lists_parked db c inorder holds refl in
      let rows = IsPermutation-map parked_digest _ c.parked
      (IsPermutation-sort_by by_digest (on_total parked_digest nat_list_cmp_total) c.parked) in
      let turn = subst (λ l. IsPermutation l (map digest_in bodies))
      (map-map digest_in parked_kept c.parked) (IsPermutation-map digest_in _ bodies kept) in
      let all = IsPermutation-trans inorder (map parked_digest c.parked) (map digest_in bodies) rows turn in
      subst (AreParked k.parked)
      (sym (sorted_unique (slice_cmp nat_cmp) nat_list_cmp_total inorder (map digest_in bodies)
      lists.rising all (sorted_keys digest_in (slice_cmp nat_cmp) bodies up))) (are_parked k c inorder books lists)

-- ---- objects

tallied : (a b : List ℕ) → ((kind : Kind) → times kind a ≡ times kind b)
    → (kinds : List Kind) → tallies_of kinds a ≡ tallies_of kinds b
tallied a b same [] = refl
tallied a b same (kind ∷ kinds) = ap₂ ◌∷◌ (ap (λ n. (kind, n)) (same kind)) (tallied a b same kinds)

of_kind : (n : ℕ) (os : List ObjectRow) → length (filter (λ k. k == n) (map kind_of_object os))
    ≡ length (filter (λ (o : ObjectRow). o.kind == n) os)
of_kind n [] = refl
of_kind n (o ∷ os) = grind (arith, of_kind n os)

-- the tallies of the kinds that were scanned are the counts
pub counts_read : (db : Database) (s : State)
    (c : Content) (numbers : List ℕ) (counts : List (Kind × ℕ)) → HoldsContent db c → IsRegistry c s
    → numbers ≡ map kind_of_object c.objects → counts ≡ tallies numbers → AreCounts s.content counts
counts_read db s c numbers counts holds registry says are =
    let inorder = map (λ (o : ObjectRow). o.kind) (sort_by by_key c.objects) in
    let lists = lists_kinds db c inorder holds refl in
    are_counts c s inorder counts registry lists
    (are ∙ ap tallies says ∙ tallied (map kind_of_object c.objects) inorder
    (λ kind. of_kind (kind_rank kind) c.objects ∙ sym (lists.counts (kind_rank kind))) all_kinds)
