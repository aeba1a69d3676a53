-- An arrival that comes again after it was answered A2: its body is there or needn't be, or it is taken in.
use Rattle.std.proofs.Common.{◌≡◌, ◌⊎◌, inl, inr, ℕ, true, List, [], Option, Some, None, IsSome}
use Rattle.std.proofs.Common.{is_some, is_none, refl, sym, ap, subst, ◌∙◌, true≢false}
use Rattle.std.specs.List.{list_any}
use Rattle.std.specs.Str.{bytes_eq}
use Rattle.std.specs.Cmp.Lexicographic.{bytes_decides}
use Rattle.std.proofs.lemmas.Bool.{and_parts}
use Rattle.std.proofs.lemmas.Option.{none-some}
use Rattle.sha2.specs.Sha256.{sha256}
use Rattle.esc_tables.specs.Reading.{reading}
use Rattle.esc_store.specs.declared.reply.Verdict.{Verdict}
use Rattle.esc_store.specs.declared.reply.Verdict.TheVariants.{A1, A2, A3, A4, A5}
use Rattle.esc_store.specs.StoreState.{StoreState}
use Rattle.esc_store.specs.ReplyValue.{ReplyValue, reply_alike}
use Rattle.esc_events.specs.declared.assessment.Assessment.{Assessment}
use Rattle.esc_events.specs.declared.assessment.Assessment.TheVariants.{Unlisted, Unreadable, Differing, Holding}
use Rattle.esc_events.specs.ArrivalValue.{ArrivalValue, an_arrival}
use Rattle.esc_events.specs.Events.{EventValue, union, coming, comings}
use Rattle.esc_events.specs.Assessment.{assessment, row_with_digest, held_row}
use Rattle.esc_events.specs.Receipts.{distinct, reply_to}
use Rattle.esc_events.specs.StateAfter.{IsStateAfter, AreBooks, IsApart, kept_arrivals, holds_by}
use Rattle.esc_events.specs.StateAfter.{has_digest, held_body, parked_body}
use Rattle.esc_events.specs.Taking.{IsAgain}
use Rattle.esc_desk.proofs.HeldRows.{is_row_of, listed_row}
use Rattle.esc_desk.proofs.Lost.{alike_counts, came_counts}
use Rattle.esc_desk.proofs.Members.{any_of, distinct_among}
use Rattle.esc_desk.specs.Again.{is_missing, is_missing_after}
use Rattle.esc_desk.proofs.Holding.{IsRefused, refused_listed, refused_row}
use Rattle.esc_desk.proofs.Likeness.{AddsNothing, seen}

-- ---- where it adds nothing

module _ (e : List EventValue) (a : ArrivalValue)
    (k : StoreState) (found : Assessment) (reply : ReplyValue) (is : IsAgain e a k found reply) where
  pub told_again : reply_to sha256 reading e a ≡ Some reply
  told_again = ap (reply_alike (union e) 1 a.number (sha256 a.body)) (sym is.stood.books.receipts) ∙ is.kept

  -- the rows that it holds are the one that was found
  found_row : (r : ℕ) → holds_by sha256 reading (union e) r (coming (union e) a) ≡ true
      → held_row found ≡ Some r
  found_row r holds = ap held_row is.found_is
      ∙ is_row_of r (held_row (assessment sha256 reading (union e) a.body)) holds

  -- a row lists it
  some_row : (found ≡ Unlisted → ⊥) → (q : ℕ) × (row_with_digest (union e) (sha256 a.body) ≡ Some q)
  some_row listed =
      let row = row_with_digest (union e) (sha256 a.body) in
      by_row row (listed_row (union e) row (reading a.body) (λ unlisted. listed (is.found_is ∙ unlisted)))
    where
      by_row : (o : Option ℕ) → is_some o ≡ true → (q : ℕ) × (o ≡ Some q)
      by_row None some = absurd (true≢false (sym some))
      by_row (Some q) some = (q, refl)

  abbrev IsHeldAlready : ℕ → Type 0
  IsHeldAlready row = list_any (holds_by sha256 reading (union e) row) (kept_arrivals sha256 reading e) ≡ true

  held_already : (row : ℕ) → IsSome (k.bodies row) → IsHeldAlready row
  held_already row some = by_body (k.bodies row) refl some
    where
      by_body : (o : Option (List ℕ)) → k.bodies row ≡ o → IsSome o → IsHeldAlready row
      by_body None at some = absurd (true≢false (sym some))
      by_body (Some body) at some =
          let came = is.stood.books.came row body at in
          any_of (holds_by sha256 reading (union e) row)
          (kept_arrivals sha256 reading e) came.arrival came.among came.holds

  -- a row lists it, and a body is held of the row whose deposit it is, if any
  pub nothing_listed : (found ≡ Unlisted → ⊥)
      → ((q : ℕ) → held_row found ≡ Some q → IsSome (k.bodies q)) → AddsNothing e a
  nothing_listed listed there =
      let at = some_row listed in
      record {
        alike = seen e a reply told_again;
        there = inr (at.0, at.1, λ r holds. held_already r (there r (found_row r holds)));
      }

  -- it is parked
  pub nothing_parked : IsSome (k.parked (sha256 a.body)) → AddsNothing e a
  nothing_parked some = by_body (k.parked (sha256 a.body)) refl some
    where
      by_body : (o : Option (List ℕ)) → k.parked (sha256 a.body) ≡ o → IsSome o → AddsNothing e a
      by_body None at some = absurd (true≢false (sym some))
      by_body (Some body) at some =
          let came = is.stood.books.waits (sha256 a.body) body at in
          let under = (bytes_decides (sha256 came.arrival.body) (sha256 a.body)).1 came.digest_is in
          record {
            alike = seen e a reply told_again;
            there = inl (any_of (has_digest sha256 reading (sha256 a.body))
                (kept_arrivals sha256 reading e) came.arrival came.among under);
          }

  pub nothing_refused : IsRefused found → AddsNothing e a
  nothing_refused refused = nothing_listed (refused_listed found refused)
      (λ q here. absurd (none-some _ (sym (refused_row found refused) ∙ here)))

-- it is like an earlier one that wasn't answered A2
pub nothing_repeated : (e : List EventValue) (a : ArrivalValue) (k : StoreState) → AreBooks sha256 reading e k
    → (y : ReplyValue) → reply_alike (union e) 1 a.number (sha256 a.body) k.receipts ≡ Some y
    → (y.verdict ≡ A2 → ⊥) → AddsNothing e a
nothing_repeated e a k books y there other =
    let digest = sha256 a.body in
    let told : reply_to sha256 reading e a ≡ Some y =
    ap (reply_alike (union e) 1 a.number digest) (sym books.receipts) ∙ there in
    let x = alike_counts sha256 reading (union e)
    (coming (union e) a) 1 [] (distinct sha256 reading (comings e)) y told other in
    let first = x.0 in
    let counts = came_counts sha256 reading e first (distinct_among sha256 reading (comings e) first x.1) x.3 in
    let like = and_parts (bytes_eq a.number first.number) (bytes_eq digest (sha256 first.body)) x.2 in
    let same : sha256 first.body ≡ digest = sym ((bytes_decides digest (sha256 first.body)).0 like.1) in
    let under = (bytes_decides (sha256 first.body) digest).1 same in
    record {
      alike = seen e a y told;
      there = inl (any_of (has_digest sha256 reading digest) (kept_arrivals sha256 reading e) first counts under);
    }

-- what is missing in a store is what is missing after the events for which it stands
pub missing_of : (e : List EventValue) (a : ArrivalValue) (k : StoreState)
    → AreBooks sha256 reading e k → IsApart sha256 reading e
    → is_missing k.bodies k.parked (sha256 a.body)
    (assessment sha256 reading (union e) a.body) ≡ is_missing_after e a
missing_of e a k books apart = by_found (assessment sha256 reading (union e) a.body)
  where
    by_found : (f : Assessment) → is_missing k.bodies k.parked (sha256 a.body) f
        ≡ is_missing (held_body sha256 reading e) (parked_body sha256 reading e) (sha256 a.body) f
    by_found Unlisted = ap (λ (o : Option (List ℕ)). is_none o) (books.parked apart (sha256 a.body))
    by_found (Unreadable r n) = refl
    by_found (Differing r) = refl
    by_found (Holding r d) = ap (λ (o : Option (List ℕ)). is_none o) (books.bodies apart r)

-- ---- what a desk answers

-- an arrival whose kept reply is A2
pub is_again : (e : List EventValue) (n body : List ℕ) (k : StoreState) (reply : ReplyValue) (digest : List ℕ)
    → digest ≡ sha256 body → IsStateAfter sha256 reading e k → reply.verdict ≡ A2
    → reply_alike (union e) 1 n digest k.receipts ≡ Some reply
    → IsAgain e (an_arrival n body) k (assessment sha256 reading (union e) body) reply
is_again e n body k reply digest same stands is there = record {
  stood = stands;
  kept = subst (λ (d : List ℕ). reply_alike (union e) 1 n d k.receipts ≡ Some reply) same there;
  verdict = is;
  found_is = refl;
}

-- a verdict that is not A2
abbrev pub IsOther : Verdict → Type 0
IsOther v = (v ≡ A1) ⊎ ((n : ℕ) × (v ≡ A3 n)) ⊎ (v ≡ A4) ⊎ (v ≡ A5)

-- such a verdict is not A2
pub no_verdict : (v : Verdict) → IsOther v → v ≡ A2 → ⊥
no_verdict v (inl is) same = let never : ⊥ = cc in never
no_verdict v (inr (inl (n, is))) same = let never : ⊥ = cc in never
no_verdict v (inr (inr (inl is))) same = let never : ⊥ = cc in never
no_verdict v (inr (inr (inr is))) same = let never : ⊥ = cc in never
