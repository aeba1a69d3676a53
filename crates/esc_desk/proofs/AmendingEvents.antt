-- What is held and parked by two lists of events with the same arrivals; and where a manifest is
-- the one more event.
use Rattle.std.proofs.Common.{◌≡◌, ℕ, ◌<◌, ◌≤◌, Bool, true, false, cond, not, filter, List, []}
use Rattle.std.proofs.Common.{◌∷◌, ◌++◌, length, nat_lt, Option, Some, None, is_some, refl, sym, ap}
use Rattle.std.proofs.Common.{subst, ◌∙◌, arith}
use Rattle.std.specs.List.{find}
use Rattle.std.proofs.lemmas.Bool.Decides.{nat_tests}
use Rattle.esc_tables.specs.Reading.{reading}
use Rattle.esc_manifest.specs.declared.row.MRow.{MRow}
use Rattle.esc_manifest.specs.ManifestRows.{row_at}
use Rattle.esc_manifest.specs.Accepted.{IsAccepted}
use Rattle.esc_manifest.specs.Extension.{new_rows, extended}
use Rattle.esc_events.specs.Events.{EventValue, Coming, union, comings}
use Rattle.esc_events.specs.Events.EventValue.{listed}
use Rattle.esc_events.specs.Assessment.{row_with_digest}
use Rattle.esc_events.specs.Receipts.{distinct, receipts_after, receipts_of}
use Rattle.esc_events.specs.StateAfter.{Among, IsApart, CameFor, CameWith, arrived_body, holds_by}
use Rattle.esc_events.specs.StateAfter.{has_digest, is_lost, kept_arrivals, held_body, parked_body}
use Rattle.esc_events.specs.Amended.{judged, amended_bodies, still_parked}
use Rattle.esc_desk.proofs.AmendingLemmas.{find_never, holds_same, beyond_held, listed_still}
use Rattle.esc_desk.proofs.AmendingLemmas.{unlisted_before, judged_first}
use Rattle.esc_desk.proofs.EventLemmas.{union-listed, comings-listed}

module _ (digest : List ℕ → List ℕ) where
  -- the body that is held of a row, and that is parked under a digest, of these arrivals
  abbrev pub held_from : List MRow → List Coming → ℕ → Option (List ℕ)
  held_from m l r = arrived_body (find (holds_by digest reading m r) l)

  abbrev pub came_under : List Coming → List ℕ → Option (List ℕ)
  came_under l d = arrived_body (find (has_digest digest reading d) l)

  -- what is parked under a digest, that is, what came with it while no row lists it
  abbrev pub parked_from : List MRow → List Coming → List ℕ → Option (List ℕ)
  parked_from m l d = cond (is_some (row_with_digest m d)) None (came_under l d)

  -- ---- the same arrivals

  module _ (e f : List EventValue) (same : comings f ≡ comings e) where
    pub receipts_as : receipts_of digest reading f ≡ receipts_of digest reading e
    receipts_as = ap (λ (cs : List Coming). receipts_after digest reading [] (distinct digest reading cs)) same

    pub counted_as : kept_arrivals digest reading f ≡ kept_arrivals digest reading e
    counted_as = ap (filter (λ (c : Coming). not (is_lost digest reading c))) same

    among_as : (c : Coming) → Among (kept_arrivals digest reading e) c → Among (kept_arrivals digest reading f) c
    among_as c among = subst (λ (cs : List Coming). Among cs c) (sym counted_as) among

    pub apart_as : IsApart digest reading f → IsApart digest reading e
    apart_as apart a b first second is = apart a b (among_as a first) (among_as b second) is

    pub held_as : (m : List MRow) → union f ≡ m
        → (r : ℕ) → held_body digest reading f r ≡ held_from m (kept_arrivals digest reading e) r
    held_as m rows r = ap (λ (x : List MRow). held_from x (kept_arrivals digest reading f) r) rows
        ∙ ap (λ (cs : List Coming). held_from m cs r) counted_as

    pub parked_as : (m : List MRow) → union f ≡ m → (d : List ℕ) → parked_body digest reading f d
        ≡ cond (is_some (row_with_digest m d)) None (came_under (kept_arrivals digest reading e) d)
    parked_as m rows d = ap (λ (x : List MRow). parked_from x (kept_arrivals digest reading f) d) rows
        ∙ ap (λ (cs : List Coming). parked_from m cs d) counted_as

    -- a body that came for a row came for a row that it holds now
    pub came_as : (q r : ℕ) (body : List ℕ) → ((c : Coming)
        → holds_by digest reading (union e) q c ≡ true → holds_by digest reading (union f) r c ≡ true)
        → CameFor digest reading e q body → CameFor digest reading f r body
    came_as q r body holds came = record {
      arrival = came.arrival;
      among = among_as
          came.arrival came.among;
      holds = holds came.arrival came.holds;
      is_body = came.is_body;
    }

    pub waits_as : (d body : List ℕ) → CameWith digest reading e d body → CameWith digest reading f d body
    waits_as d body came = record {
      arrival = came.arrival;
      among = among_as came.arrival came.among;
      digest_is = came.digest_is;
      is_body = came.is_body;
    }

    -- a body that came with the digest of a row and is its deposit came for it
    pub holds_as : (d : List ℕ) (r : ℕ) (body : List ℕ) → ((c : Coming)
        → digest c.body ≡ d → c.body ≡ body → holds_by digest reading (union f) r c ≡ true)
        → CameWith digest reading e d body → CameFor digest reading f r body
    holds_as d r body holds came = record {
      arrival = came.arrival;
      among = among_as came.arrival
          came.among;
      holds = holds came.arrival came.digest_is came.is_body;
      is_body = came.is_body;
    }

  -- ---- one more manifest

  module _ (e : List EventValue)
      (more : List MRow) (ok : IsAccepted (union e)) (okn : IsAccepted (extended (union e) more)) where
    abbrev pub m : List MRow
    m = union e

    abbrev pub x : List MRow
    x = new_rows (union e) more

    abbrev pub n : List MRow
    n = extended (union e) more

    abbrev pub f : List EventValue
    f = e ++ listed more ∷ []

    after : (r : ℕ) → held_body digest reading f r ≡ held_from n (kept_arrivals digest reading e) r
    after r = held_as e f (comings-listed e more) n (union-listed e more) r

    pub held_is : IsApart digest reading e → (r : ℕ) → amended_bodies n (parked_body digest reading e)
        (length m) (held_body digest reading e) r ≡ held_body digest reading f r
    held_is apart r = by_old (nat_lt r (length m)) refl (nat_lt r (length n)) refl
      where
        old : r < length m → held_body digest reading e r ≡ held_body digest reading f r
        old lt =
            let same : holds_by digest reading n r ≡ holds_by digest reading m r =
            λ i c. holds_same digest reading x ok okn r lt c i in
            ap (λ (p : Coming → Bool). arrived_body (find p (kept_arrivals digest reading e)))
            (sym same) ∙ sym (after r)

        inside : length m ≤ r → r < length n → judged
            n r (parked_body digest reading e (row_at n r).digest) ≡ held_body digest reading f r
        inside new lt =
            ap (λ (o : Option ℕ). judged n r (cond (is_some o)
            None (came_under (kept_arrivals digest reading e) (row_at n r).digest)))
            (unlisted_before digest reading x ok okn r new lt)
            ∙ judged_first digest okn lt (kept_arrivals digest reading e) apart ∙ sym (after r)

        beyond : length n ≤ r → None ≡ held_body digest reading f r
        beyond far = sym (after r ∙ ap arrived_body (find_never (holds_by digest reading n r)
            (kept_arrivals digest reading e) (λ c among is. beyond_held digest reading n r far c is)))

        by_old : (s : Bool) → nat_lt r (length m) ≡ s → (t : Bool) → nat_lt r (length n) ≡ t
            → cond s (held_body digest reading e r)
            (cond t (judged n r (parked_body digest reading e (row_at n r).digest)) None)
            ≡ held_body digest reading f r
        by_old true is t lt = old (grind (arith, nat_tests, is))
        by_old false is true lt = inside (grind (arith, nat_tests, is)) (grind (arith, nat_tests, lt))
        by_old false is false lt = beyond (grind (arith, nat_tests, lt))

    pub parked_is : (d : List ℕ)
        → still_parked n (parked_body digest reading e) d ≡ parked_body digest reading f d
    parked_is d = by_row (row_with_digest m d) refl (row_with_digest n d) refl
        ∙ sym (parked_as e f (comings-listed e more) n (union-listed e more) d)
      where
        by_row : (o : Option ℕ) → row_with_digest m d ≡ o → (p : Option ℕ) → row_with_digest n d ≡ p
            → cond (is_some (row_with_digest n d)) None (parked_from
            m (kept_arrivals digest reading e) d) ≡ parked_from n (kept_arrivals digest reading e) d
        by_row None old p new = ap (λ (q : Option ℕ). cond (is_some (row_with_digest n d))
            None (cond (is_some q) None (came_under (kept_arrivals digest reading e) d))) old
        by_row (Some q) old p new =
            let there : row_with_digest n d ≡ Some q = listed_still m x d q old in
            ap (λ (s : Option ℕ). cond (is_some s) None (parked_from m (kept_arrivals digest reading e) d)) there
            ∙ sym (ap (λ (s : Option ℕ). cond (is_some s)
            None (came_under (kept_arrivals digest reading e) d)) there)
