-- A series of the tables, listed and held, leaves these tables.
use Rattle.std.proofs.Common.{◌≡◌, ℕ, zero, suc, ◌+◌, ◌-◌, ◌<◌, ℤ, Bool, true, false, cond, ltb, lt-ltb, not, ◌||◌}
use Rattle.std.proofs.Common.{List, [], ◌∷◌, map, length, get_or, Option, None, Some, Result, Ok, refl, sym, ap, subst}
use Rattle.std.proofs.Common.{◌∙◌, arith}
use Rattle.std.specs.FinSet as set
use Rattle.std.specs.List.{position, position_or_len, range_with_len, find}
use Rattle.std.specs.Map.{lookup, keys_of}
use Rattle.std.specs.Ordering.{int_eq}
use Rattle.std.specs.Str.{bytes_eq}
use Rattle.std.proofs.lemmas.Bool.Decides.{Decides-int_eq}
use Rattle.std.proofs.lemmas.Int.{ints}
use Rattle.std.proofs.lemmas.List.{get_or-map, length-map}
use Rattle.std.proofs.lemmas.List.FromFn.{fill_by_all}
use Rattle.std.proofs.lemmas.List.Folds.{Any-from_list_any}
use Rattle.std.proofs.lemmas.List.Quantifiers.{position-Some}
use Rattle.std.proofs.lemmas.Map.Keys.{IsDistinct-from_sorted}
use Rattle.std.proofs.lemmas.Slice.Eq.{bytes_eq-Decides}
use Rattle.sha2.specs.Sha256.{sha256}
use Rattle.esc_bundle.specs.declared.refusal.Refusal.{Refusal}
use Rattle.esc_envelope.specs.HeaderValue.{HeaderValue}
use Rattle.esc_envelope.specs.Place.{rank}
use Rattle.esc_manifest.specs.declared.row.MRow.{MRow}
use Rattle.esc_manifest.specs.Extension.{same_prev}
use Rattle.esc_manifest.specs.RowFaults.{is_diff}
use Rattle.esc_manifest.specs.ManifestRows.{no_row, row_at}
use Rattle.esc_tables.specs.DepositValue.{DepositValue}
use Rattle.esc_tables.specs.KeyName.{KeyName, key_cmp, key_eq}
use Rattle.esc_tables.specs.Reading.{reading}
use Rattle.esc_chain.specs.Chain.{Rows, IsHeld, IsLatestChainAt}
use Rattle.esc_apply.specs.ObjectStreams.{Entry, InOrder}
use Rattle.esc_apply.specs.Tables.{tables}
use Rattle.esc_events.specs.declared.assessment.Assessment.TheVariants.{Differing, Holding}
use Rattle.esc_events.specs.ArrivalValue.{ArrivalValue}
use Rattle.esc_events.specs.Events.{EventValue, Coming, coming, union, manifest_then}
use Rattle.esc_events.specs.Assessment.{as_listed, assessment, found, found_at, row_with_digest}
use Rattle.esc_events.specs.HeldLaws.{same_self}
use Rattle.esc_events.specs.LatestTables.{IsChainOf, AreEntries}
use Rattle.esc_events.specs.Receipts.{holds_row}
use Rattle.esc_events.specs.StateAfter.{Among, arrived_body, no_deposit, or_no_deposit, deposit_of, deposits_of}
use Rattle.esc_events.specs.StateAfter.{IsApart, holds_by, kept_arrivals, held_rows, held_body, rows_of_arrivals}
use Rattle.esc_deposit.specs.RegistrySeries.{part_header, part_moment, parts_from, run_objects, registry_series}
use Rattle.esc_deposit.specs.RegistrySeries.{AreSeriesOf}
use Rattle.esc_handover.specs.Restored.{part_row, part_rows, series_then, HaveCome, SeriesIsRestored}
use Rattle.esc_handover.proofs.Arrivals.{union_then, moment_then, kept_then, among_at, found_among, any_among}
use Rattle.esc_handover.proofs.Arrivals.{row_of_held, contains_held}
use Rattle.esc_handover.proofs.InTurn.{stand_in_turn}

-- ---- the row of a body

-- how many elements stand before it
place_found : {X : Type 0} (p : X → Bool) (xs : List X) (i : ℕ) (d : X) → i < length xs → p (get_or xs i d) ≡ true
    → ((k : ℕ) → k < i → p (get_or xs k d) ≡ false) → position_or_len p xs ≡ i
place_found p [] i d below is before = absurd (omega (arith, below))
place_found p (x ∷ xs) zero d below is before = rw is refl
place_found p (x ∷ xs) (suc i) d below is before =
    rw (before 0 (omega arith)) (ap (λ n. 1 + n) (place_found p xs i d (omega (arith, below)) is
    (λ k less. before (suc k) (omega (arith, less)))) ∙ omega arith)

-- the first place at which a test passes
first_place : {X : Type 0} (p : X → Bool) (xs : List X) (i : ℕ) (d : X) → i < length xs → p (get_or xs i d) ≡ true
    → ((k : ℕ) → k < i → p (get_or xs k d) ≡ false) → position p xs ≡ Some i
first_place p xs i d below is before =
    ap (λ n. cond (ltb n (length xs)) (Some n) None) (place_found p xs i d below is before)
    ∙ ap (λ b. cond b (Some i) None) (lt-ltb i (length xs) below)

-- a text equals itself
same_text : (t : List ℕ) → bytes_eq t t ≡ true
same_text t = (bytes_eq-Decides t t).1 refl

-- so does a watermark
same_moment : (w : ℤ) → int_eq w w ≡ true
same_moment w = (Decides-int_eq w w).1 refl

-- and what a part names as the one before it
same_before : (prev : Option (List ℕ)) → same_prev prev prev ≡ true
same_before None = refl
same_before (Some id) = same_text id

-- a test that ends in one that passes
or_true : (b : Bool) → (b || true) ≡ true
or_true true = refl
or_true false = refl

-- a header is the one that its own row lists
own_row : (x : HeaderValue) → as_listed x x ≡ true
own_row x = rw (
  same_text x.id,
  same_moment x.place.watermark,
  same_self (rank x.place.kind),
  same_self x.resend,
  same_before x.prev,
) (or_true (not (is_diff x.place.kind)))

-- two parts of one moment are one
apart_in_time : (w : ℤ) (n q k : ℕ) → q < k → k < n → part_moment w n q ≡ part_moment w n k → ⊥
apart_in_time w n q k less below same = omega (arith, ints)

-- ---- bodies that are read as parts, and are listed as these

module _ (digest : List ℕ → List ℕ) (reads : List ℕ → Result DepositValue Refusal) (id : List ℕ) (w : ℤ) (n : ℕ)
    (m : List MRow) (bodies : List (List ℕ)) (parts : List DepositValue) (came : List ArrivalValue)
    (many : length m ≡ n)
    (rows : (k : ℕ) → k < n
    → row_at m k ≡ record { header = part_header id w n k; digest = digest (get_or bodies k []) })
    (told : (k : ℕ) → k < n → reads (get_or bodies k []) ≡ Ok (get_or parts k no_deposit))
    (said : (k : ℕ) → k < n → (get_or parts k no_deposit).header ≡ part_header id w n k)
    (come : (k : ℕ) → k < n → (a : Coming) × Among (map (coming m) came) a × (a.body ≡ get_or bodies k []))
    (apart : (a b : Coming) → Among (map (coming m) came) a → Among (map (coming m) came) b
    → digest a.body ≡ digest b.body → a.body ≡ b.body) where
  abbrev all : List Coming
  all = map (coming m) came

  abbrev body : ℕ → List ℕ
  body k = get_or bodies k []

  abbrev part : ℕ → DepositValue
  part k = get_or parts k no_deposit

  abbrev is_held : ℕ → Coming → Bool
  is_held r a = holds_by digest reads m r a

  abbrev held : Rows
  held = set.from_list (rows_of_arrivals digest reads m all)

  abbrev body_of : ℕ → Option (List ℕ)
  body_of r = arrived_body (find (is_held r) all)

  -- the digest of a row is that of its body
  own_digest : (r : ℕ) → r < n → (row_at m r).digest ≡ digest (body r)
  own_digest r below = ap (λ (row : MRow). row.digest) (rows r below)

  -- what came with the digest of a body is that body
  own_body : (r : ℕ) → r < n → (a : Coming) → Among all a → digest a.body ≡ digest (body r) → a.body ≡ body r
  own_body r below a among same =
      let there = come r below in
      apart a there.0 among there.1 (same ∙ ap digest (sym there.2)) ∙ there.2

  -- bodies of two parts have two digests
  differ : (q r : ℕ) → q < r → r < n → bytes_eq (row_at m q).digest (digest (body r)) ≡ false
  differ q r less below = by_test (bytes_eq (row_at m q).digest (digest (body r))) refl
    where
      first : q < n
      first = omega (arith, less, below)

      by_test : (b : Bool) → bytes_eq (row_at m q).digest (digest (body r)) ≡ b → b ≡ false
      by_test true is =
          let there = come q first in
          let same : digest (body q) ≡ digest (body r) =
          sym (own_digest q first) ∙ (bytes_eq-Decides (row_at m q).digest (digest (body r))).0 is in
          let one : body q ≡ body r =
          sym there.2 ∙ own_body r below there.0 there.1 (ap digest there.2 ∙ same) in
          let both : part q ≡ part r =
          ap or_no_deposit (sym (told q first) ∙ ap reads one ∙ told r below) in
          let header : part_header id w n q ≡ part_header id w n r =
          sym (said q first) ∙ ap (λ (d : DepositValue). d.header) both ∙ said r below in
          absurd (apart_in_time w n q r less below (ap (λ (x : HeaderValue). x.place.watermark) header))
      by_test false is = refl

  -- the row of a body is its own
  listed_at : (r : ℕ) → r < n → row_with_digest m (digest (body r)) ≡ Some r
  listed_at r below = first_place (λ (row : MRow). bytes_eq row.digest (digest (body r))) m r no_row
      (omega (arith, many, below))
      ((bytes_eq-Decides (row_at m r).digest (digest (body r))).1 (own_digest r below))
      (λ k less. differ k r less below)

  -- each body is the deposit of its row
  holds_own : (r : ℕ) → r < n → (a : Coming) → a.body ≡ body r → is_held r a ≡ true
  holds_own r below a is =
      ap (λ (b : List ℕ). holds_row r (assessment digest reads m b)) is
      ∙ ap (λ (row : Option ℕ). holds_row r (found_at m row (reads (body r)))) (listed_at r below)
      ∙ ap (λ (t : Result DepositValue Refusal). holds_row r (found m r t)) (told r below)
      ∙ ap (λ b. holds_row r (cond b (Holding r (part r)) (Differing r)))
      (ap (λ (x : HeaderValue). as_listed x (part r).header) (ap (λ (row : MRow). row.header) (rows r below))
      ∙ ap (λ (x : HeaderValue). as_listed (part_header id w n r) x) (said r below)
      ∙ own_row (part_header id w n r))
      ∙ same_self r

  -- the row that an arrival is held for lists its digest
  held_row_of : (r : ℕ) (a : Coming) → is_held r a ≡ true
      → (r < length m) × (bytes_eq (row_at m r).digest (digest a.body) ≡ true)
  held_row_of r a is =
      let at = position-Some (λ (row : MRow). bytes_eq row.digest (digest a.body)) m r no_row
      (row_of_held m (row_with_digest m (digest a.body)) (reads a.body) r is) in
      (at.0, at.1)

  -- the rows of all bodies are held
  all_held : (r : ℕ) → r < n → IsHeld held r
  all_held r below =
      let there = come r below in
      contains_held digest reads m all r
      ∙ any_among (is_held r) all there.0 there.1 (holds_own r below there.0 there.2)

  -- and no other row is
  none_other : (r : ℕ) → IsHeld held r → r < n
  none_other r is =
      let some = Any-from_list_any (is_held r) all (sym (contains_held digest reads m all r) ∙ is) in
      let within : r < length m = (held_row_of r some.1 some.4).0 in
      omega (arith, within, many)

  -- the body that is held for a row is its own
  own_held : (r : ℕ) → r < n → body_of r ≡ Some (body r)
  own_held r below =
      let there = come r below in
      let it = found_among (is_held r) all there.0 there.1 (holds_own r below there.0 there.2) in
      let same : digest it.0.body ≡ digest (body r) =
      sym ((bytes_eq-Decides (row_at m r).digest (digest it.0.body)).0 (held_row_of r it.0 it.3).1)
      ∙ own_digest r below in
      ap arrived_body it.1 ∙ ap Some (own_body r below it.0 it.2 same)

  -- the rows stand in one chain, in their order
  pub chain_of_all : 0 < n → IsLatestChainAt m held None (range_with_len 0 n)
  chain_of_all some = stand_in_turn id w n m held many
      (λ k below. ap (λ (row : MRow). row.header) (rows k below)) all_held none_other (n - 1) (omega (arith, some))

  -- whose deposits are the parts
  pub deposits_of_all : length parts ≡ n → deposits_of reads body_of (range_with_len 0 n) ≡ parts
  deposits_of_all as_many = sym (fill_by_all (λ r. deposit_of reads (body_of r)) parts n no_deposit as_many
      (λ k below. sym (ap (deposit_of reads) (own_held k below) ∙ ap or_no_deposit (told k below))))

-- ---- the rows and the parts of a series

module _ (id : List ℕ) (w : ℤ) (of : ℕ) where
  -- there is a row for each body
  row_count : (number : ℕ) (bodies : List (List ℕ)) → length (part_rows id w of number bodies) ≡ length bodies
  row_count number [] = refl
  row_count number (body ∷ bodies) = ap (λ n. suc n) (row_count (suc number) bodies)

  -- the row of a body is that of its number
  nth_row : (number : ℕ) (bodies : List (List ℕ)) (k j : ℕ) → k < length bodies → number + k ≡ j
      → row_at (part_rows id w of number bodies) k ≡ part_row id w of j (get_or bodies k [])
  nth_row number [] k j below is = absurd (omega (arith, below))
  nth_row number (body ∷ bodies) zero j below is =
      let same : number ≡ j = omega (arith, is) in ap (λ c. part_row id w of c body) same
  nth_row number (body ∷ bodies) (suc k) j below is =
      nth_row (suc number) bodies k j (omega (arith, below)) (omega (arith, is))

  -- there is a part for each run
  part_count : (es : List Entry) (number : ℕ) (runs : List (List Entry))
      → length (parts_from id w es of number runs) ≡ length runs
  part_count es number [] = refl
  part_count es number (run ∷ runs) = ap (λ n. suc n) (part_count es (suc number) runs)

  -- a part has the header of its number
  nth_header : (es : List Entry) (number : ℕ) (runs : List (List Entry)) (k j : ℕ) → k < length runs
      → number + k ≡ j → (get_or (parts_from id w es of number runs) k no_deposit).header ≡ part_header id w of j
  nth_header es number [] k j below is = absurd (omega (arith, below))
  nth_header es number (run ∷ runs) zero j below is =
      let same : number ≡ j = omega (arith, is) in ap (λ c. part_header id w of c) same
  nth_header es number (run ∷ runs) (suc k) j below is =
      nth_header es (suc number) runs k j (omega (arith, below)) (omega (arith, is))

-- what a body is read as, by the lists of all
nth_read : (bodies : List (List ℕ)) (parts : List DepositValue) → map reading bodies ≡ map Ok parts
    → (k : ℕ) → k < length bodies → k < length parts
    → reading (get_or bodies k []) ≡ Ok (get_or parts k no_deposit)
nth_read bodies parts read k below within =
    sym (get_or-map reading bodies k [] (Ok no_deposit) below)
    ∙ ap (λ (l : List (Result DepositValue Refusal)). get_or l k (Ok no_deposit)) read
    ∙ get_or-map Ok parts k no_deposit (Ok no_deposit) within

-- ---- the law

-- the parts of a registry have its objects
abbrev pub PartsHaveObjects : Type 0
PartsHaveObjects = (id : List ℕ) (w : ℤ) (runs : List (List Entry)) → 0 < length runs
    → InOrder (run_objects runs) → (q : KeyName)
    → tables (registry_series id w runs) q ≡ lookup (key_eq q) (run_objects runs)

module _ (objects : PartsHaveObjects) (id : List ℕ) (w : ℤ) (es : List Entry) (bodies : List (List ℕ))
    (came : List ArrivalValue) (order : InOrder es) (series : AreSeriesOf id w es bodies) (have : HaveCome bodies came)
    (apart : IsApart sha256 reading (series_then id w bodies came)) where
  abbrev n : ℕ
  n = length bodies

  abbrev m : List MRow
  m = part_rows id w n 0 bodies

  abbrev e : List EventValue
  e = manifest_then m came

  abbrev parts : List DepositValue
  parts = registry_series id w series.runs

  -- as many parts as runs, and as many bodies
  part_number : length parts ≡ length series.runs
  part_number = part_count id w (length series.runs) (run_objects series.runs) 0 series.runs

  as_many : length parts ≡ n
  as_many = sym (length-map parts Ok)
      ∙ ap (λ (l : List (Result DepositValue Refusal)). length l) (sym series.read) ∙ length-map bodies reading

  -- what the proof above asks of bodies, rows, parts and arrivals
  each_said : (k : ℕ) → k < n → (get_or parts k no_deposit).header ≡ part_header id w n k
  each_said k below =
      nth_header id w (length series.runs) (run_objects series.runs) 0 series.runs k k
      (omega (arith, below, as_many, part_number)) (omega arith)
      ∙ ap (λ c. part_header id w c k) (sym part_number ∙ as_many)

  each_told : (k : ℕ) → k < n → reading (get_or bodies k []) ≡ Ok (get_or parts k no_deposit)
  each_told k below = nth_read bodies parts series.read k below (omega (arith, below, as_many))

  each_row : (k : ℕ) → k < n → row_at m k ≡ part_row id w n k (get_or bodies k [])
  each_row k below = nth_row id w n 0 bodies k k below (omega arith)

  each_come : (k : ℕ) → k < n → (a : Coming) × Among (map (coming m) came) a × (a.body ≡ get_or bodies k [])
  each_come k below =
      let one = have k [] below in (coming m one.1, among_at m came one.0 one.1 one.2 one.3, one.4)

  all_apart : (a b : Coming) → Among (map (coming m) came) a → Among (map (coming m) came) b
      → sha256 a.body ≡ sha256 b.body → a.body ≡ b.body
  all_apart = subst (λ (l : List Coming). (a b : Coming) → Among l a → Among l b → sha256 a.body ≡ sha256 b.body
      → a.body ≡ b.body) (kept_then sha256 reading m came) apart

  -- the rows are the latest chain after these events
  chain_then : IsChainOf e (range_with_len 0 n)
  chain_then =
      subst (λ (t : Option ℤ). IsLatestChainAt (union e) (held_rows sha256 reading e) t (range_with_len 0 n))
      (sym (moment_then m came))
      (subst (λ (u : List MRow). IsLatestChainAt u (set.from_list (rows_of_arrivals sha256 reading u
      (kept_arrivals sha256 reading e))) None (range_with_len 0 n)) (sym (union_then m came))
      (subst (λ (l : List Coming). IsLatestChainAt m (set.from_list (rows_of_arrivals sha256 reading m l)) None
      (range_with_len 0 n)) (sym (kept_then sha256 reading m came))
      (chain_of_all sha256 reading id w n m bodies parts came (row_count id w n 0 bodies) each_row each_told each_said
      each_come all_apart (omega (arith, series.some, as_many, part_number)))))

  -- and its deposits are the parts
  deposits_then : deposits_of reading (held_body sha256 reading e) (range_with_len 0 n) ≡ parts
  deposits_then =
      ap (λ (u : List MRow). deposits_of reading (λ r. arrived_body (find (holds_by sha256 reading u r)
      (kept_arrivals sha256 reading e))) (range_with_len 0 n)) (union_then m came)
      ∙ ap (λ (l : List Coming). deposits_of reading (λ r. arrived_body (find (holds_by sha256 reading m r) l))
      (range_with_len 0 n)) (kept_then sha256 reading m came)
      ∙ deposits_of_all sha256 reading id w n m bodies parts came (row_count id w n 0 bodies) each_row each_told
      each_said each_come all_apart as_many

  -- so the tables are the objects
  pub restored : AreEntries e es
  restored = record {
    chain = range_with_len 0 n;
    latest = chain_then;
    objects = record {
      once = IsDistinct-from_sorted key_cmp (keys_of es) order;
      each = λ q. sym (ap (λ (ds : List DepositValue). tables ds q) deposits_then
          ∙ objects id w series.runs series.some (subst InOrder (sym series.whole) order) q
          ∙ ap (λ (fs : List Entry). lookup (key_eq q) fs) series.whole);
    };
  }

-- a series, listed and held, leaves its objects
pub series_restored : PartsHaveObjects → SeriesIsRestored
series_restored objects id w es bodies came order series have apart =
    restored objects id w es bodies came order series have apart
