-- A manifest, and then arrivals: what is listed, what counts and what is held.
use Rattle.std.proofs.Common.{◌≡◌, ℕ, zero, suc, ◌<◌, Bool, true, false, cond, ◌||◌, not, List, [], ◌∷◌, map, filter}
use Rattle.std.proofs.Common.{length, get_or, Option, None, Some, Result, Ok, Err, refl, sym, ap, ◌∙◌, inl, inr}
use Rattle.std.proofs.Common.{true≢false, arith}
use Rattle.std.specs.FinSet as set
use Rattle.std.specs.Cmp.{nat_cmp_total}
use Rattle.std.specs.List.{find, list_any}
use Rattle.std.specs.Ordering.{nat_cmp, eq_by_cmp}
use Rattle.std.proofs.lemmas.Bool.{eqb-true}
use Rattle.esc_bundle.specs.declared.refusal.Refusal.{Refusal}
use Rattle.esc_tables.specs.DepositValue.{DepositValue}
use Rattle.esc_manifest.specs.declared.row.MRow.{MRow}
use Rattle.esc_manifest.specs.Extension.{is_listed, extended}
use Rattle.esc_events.specs.ArrivalValue.{ArrivalValue}
use Rattle.esc_events.specs.Events.{Coming, coming, comings_after, union, union_after, moment_after}
use Rattle.esc_events.specs.Events.{last_moment, manifest_then}
use Rattle.esc_events.specs.Events.EventValue.{arrived}
use Rattle.esc_events.specs.declared.assessment.Assessment.TheVariants.{Differing, Holding}
use Rattle.esc_events.specs.Assessment.{assessment, found_at, held_row}
use Rattle.esc_events.specs.Receipts.{is_row}
use Rattle.esc_events.specs.StateAfter.{Among, is_lost, kept_arrivals, holds_by, with_some, rows_of_arrivals}
use Rattle.esc_events.specs.HeldLaws.{same_test}

-- ---- what is listed and what counts

-- all rows of the first manifest are new
none_is_listed : (m : List MRow) → filter (λ r. not (is_listed [] r)) m ≡ m
none_is_listed [] = refl
none_is_listed (r ∷ m) = ap (λ (l : List MRow). r ∷ l) (none_is_listed m)

-- arrivals list no row
union_of_arrivals : (m : List MRow) (l : List ArrivalValue) → union_after m (map arrived l) ≡ m
union_of_arrivals m [] = refl
union_of_arrivals m (a ∷ l) = union_of_arrivals m l

-- the manifest alone is listed
pub union_then : (m : List MRow) (l : List ArrivalValue) → union (manifest_then m l) ≡ m
union_then m l = union_of_arrivals (extended [] m) l ∙ none_is_listed m

-- arrivals set no moment
moment_of_arrivals : (l : List ArrivalValue) → moment_after None (map arrived l) ≡ None
moment_of_arrivals [] = refl
moment_of_arrivals (a ∷ l) = moment_of_arrivals l

-- no moment is set
pub moment_then : (m : List MRow) (l : List ArrivalValue) → last_moment (manifest_then m l) ≡ None
moment_then m l = moment_of_arrivals l

-- each comes with the rows of the manifest
comings_of_arrivals : (m : List MRow) (l : List ArrivalValue) → comings_after m (map arrived l) ≡ map (coming m) l
comings_of_arrivals m [] = refl
comings_of_arrivals m (a ∷ l) = ap (λ (cs : List Coming). coming m a ∷ cs) (comings_of_arrivals m l)

module _ (digest : List ℕ → List ℕ) (reads : List ℕ → Result DepositValue Refusal) where
  -- no arrival is an early one, which alone may be lost
  all_count : (m : List MRow) (l : List ArrivalValue)
      → filter (λ c. not (is_lost digest reads c)) (map (coming m) l) ≡ map (coming m) l
  all_count m [] = refl
  all_count m (a ∷ l) = ap (λ (cs : List Coming). coming m a ∷ cs) (all_count m l)

  -- all arrivals count
  pub kept_then : (m : List MRow) (l : List ArrivalValue)
      → kept_arrivals digest reads (manifest_then m l) ≡ map (coming m) l
  kept_then m l =
      ap (λ (cs : List Coming). filter (λ c. not (is_lost digest reads c)) cs)
      (comings_of_arrivals (extended [] m) l ∙ ap (λ (n : List MRow). map (coming n) l) (none_is_listed m))
      ∙ all_count m l

-- an arrival is among those that count
pub among_at : (m : List MRow) (l : List ArrivalValue) (k : ℕ) (a : ArrivalValue) → k < length l → get_or l k a ≡ a
    → Among (map (coming m) l) (coming m a)
among_at m [] k a below is = absurd (omega (arith, below))
among_at m (b ∷ l) zero a below is = inl (ap (coming m) (sym is))
among_at m (b ∷ l) (suc k) a below is = inr (among_at m l k a (omega (arith, below)) is)

-- ---- what is found among arrivals

-- where one passes a test, one is found
pub found_among : (p : Coming → Bool) (l : List Coming) (c : Coming) → Among l c → p c ≡ true
    → (f : Coming) × (find p l ≡ Some f) × Among l f × (p f ≡ true)
found_among p [] c among is = absurd among
found_among p (b ∷ l) c among is = by_test (p b) refl among (λ later. found_among p l c later is)
  where
    by_test : (t : Bool) → p b ≡ t → Among (b ∷ l) c
        → (Among l c → (f : Coming) × (find p l ≡ Some f) × Among l f × (p f ≡ true))
        → (f : Coming) × (find p (b ∷ l) ≡ Some f) × Among (b ∷ l) f × (p f ≡ true)
    by_test true now among rest = (b, ap (λ t. cond t (Some b) (find p l)) now, inl refl, now)
    by_test false now (inl same) rest = absurd (true≢false (sym is ∙ ap p same ∙ now))
    by_test false now (inr later) rest =
        let it = rest later in
        (it.0, ap (λ t. cond t (Some b) (find p l)) now ∙ it.1, inr it.2, it.3)

-- and one passes it at all
pub any_among : (p : Coming → Bool) (l : List Coming) (c : Coming) → Among l c → p c ≡ true → list_any p l ≡ true
any_among p [] c among is = absurd among
any_among p (b ∷ l) c (inl same) is = ap (λ t. t || list_any p l) (ap p (sym same) ∙ is)
any_among p (b ∷ l) c (inr later) is = ap (λ t. p b || t) (any_among p l c later is) ∙ or_true (p b)
  where
    or_true : (t : Bool) → (t || true) ≡ true
    or_true true = refl
    or_true false = refl

-- ---- which rows are held

-- a row that is held lists the body
pub row_of_held : (m : List MRow) (row : Option ℕ) (told : Result DepositValue Refusal) (r : ℕ)
    → is_row r (held_row (found_at m row told)) ≡ true → row ≡ Some r
row_of_held m None told r is = absurd (true≢false (sym is))
row_of_held m (Some q) (Err n) r is = absurd (true≢false (sym is))
row_of_held m (Some q) (Ok d) r is = by_test _ is
  where
    by_test : (b : Bool) → is_row r (held_row (cond b (Holding q d) (Differing q))) ≡ true → Some q ≡ Some r
    by_test true is = ap Some (eqb-true q r is)
    by_test false is = absurd (true≢false (sym is))

module _ (digest : List ℕ → List ℕ) (reads : List ℕ → Result DepositValue Refusal) (m : List MRow) where
  -- the rows that were found are those that a body holds
  any_row : (l : List Coming) (r : ℕ) → list_any (λ q. eq_by_cmp nat_cmp r q) (rows_of_arrivals digest reads m l)
      ≡ list_any (holds_by digest reads m r) l
  any_row [] r = refl
  any_row (a ∷ l) r = one (held_row (assessment digest reads m a.body))
      ∙ ap (λ b. is_row r (held_row (assessment digest reads m a.body)) || b) (any_row l r)
    where
      one : (row : Option ℕ)
          → list_any (λ q. eq_by_cmp nat_cmp r q) (with_some row (rows_of_arrivals digest reads m l))
          ≡ (is_row r row || list_any (λ q. eq_by_cmp nat_cmp r q) (rows_of_arrivals digest reads m l))
      one None = refl
      one (Some q) =
          ap (λ b. b || list_any (λ q. eq_by_cmp nat_cmp r q) (rows_of_arrivals digest reads m l)) (same_test q r)

  -- a row is held exactly if one of the bodies holds it
  pub contains_held : (l : List Coming) (r : ℕ)
      → set.contains (set.from_list {R = nat_cmp} (rows_of_arrivals digest reads m l)) r
      ≡ list_any (holds_by digest reads m r) l
  contains_held l r = set.contains-from_list nat_cmp_total (rows_of_arrivals digest reads m l) r ∙ any_row l r
