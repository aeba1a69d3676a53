-- One more arrival: the receipts, the reply, and the books of a store.
use Rattle.std.proofs.Common.{◌≡◌, ◌⊎◌, inl, inr, ℕ, ◌+◌, Bool, true, false, cond, ◌||◌, List}
use Rattle.std.proofs.Common.{[], ◌∷◌, ◌++◌, length}
use Rattle.std.proofs.Common.{Option, Some, None, IsSome, is_some, Result, refl, sym, ap, ap₂, subst}
use Rattle.std.proofs.Common.{◌∙◌, true≢false}
use Rattle.std.specs.List.{list_any, find, Any}
use Rattle.std.specs.Cmp.Lexicographic.{bytes_decides}
use Rattle.esc_bundle.specs.declared.refusal.Refusal.{Refusal}
use Rattle.esc_manifest.specs.declared.row.MRow.{MRow}
use Rattle.esc_tables.specs.DepositValue.{DepositValue}
use Rattle.esc_store.specs.StoreState.{StoreState, SaysHeld, TellsUnlisted}
use Rattle.esc_store.specs.ReplyValue.{ReplyValue, ReceiptValue, reply_kept, is_alike, reply_alike}
use Rattle.esc_events.specs.ArrivalValue.{ArrivalValue}
use Rattle.esc_events.specs.Events.{EventValue, Coming, union, coming, comings}
use Rattle.esc_events.specs.Events.EventValue.{arrived}
use Rattle.esc_events.specs.Assessment.{row_with_digest}
use Rattle.esc_events.specs.Receipts.{alike, distinct, receipt_for, receipts_after, receipts_of, reply_to}
use Rattle.esc_events.specs.StateAfter.{Among, TellsOf, arrived_body, holds_by, has_digest}
use Rattle.esc_events.specs.StateAfter.{kept_arrivals, held_body, parked_body, IsApart, CameFor}
use Rattle.esc_events.specs.StateAfter.{CameWith, AreBooks}
use Rattle.esc_desk.proofs.EventLemmas.{union-arrived, comings-arrived, moment-arrived}
use Rattle.esc_desk.proofs.Searches.{none_alike, some_alike, alike-last, find-push-old, find-push-new}
use Rattle.esc_desk.proofs.Distinct.{alike_laws, any_alike, distinct-push, receipts-push, kept_any}
use Rattle.esc_desk.proofs.Lost.{kept_arrivals-arrived}
use Rattle.esc_desk.proofs.Members.{among-front, among-last, any_found, no_first}

module _ (digest : List ℕ → List ℕ) (reads : List ℕ → Result DepositValue Refusal) where
  -- whether an arrival of the list is a duplicate of this one, by the receipts
  pub any_kept : (l : List Coming) (c : Coming)
      → list_any (alike digest reads c) l ≡ list_any (is_alike c.number (digest c.body))
      (receipts_after digest reads [] (distinct digest reads l))
  any_kept l c = any_alike digest reads l c ∙ sym (kept_any digest reads [] (distinct digest reads l) c)

  -- what came for a row or with a digest by some events did so by others, where the same rows are
  -- listed and no arrival that counts is gone
  module _ (e f : List EventValue) (rows : union f ≡ union e) (stay : (c : Coming)
      → Among (kept_arrivals digest reads e) c → Among (kept_arrivals digest reads f) c) where
    pub came_by : (r : ℕ) (body : List ℕ) → CameFor digest reads e r body → CameFor digest reads f r body
    came_by r body c = record {
      arrival = c.arrival;
      among = stay c.arrival c.among;
      holds = ap (λ (m : List MRow). holds_by digest reads m r c.arrival) rows ∙ c.holds;
      is_body = c.is_body;
    }

    pub with_by : (d body : List ℕ) → CameWith digest reads e d body → CameWith digest reads f d body
    with_by d body c = record {
      arrival = c.arrival;
      among = stay c.arrival c.among;
      digest_is = c.digest_is;
      is_body = c.is_body;
    }

  -- a body of a row was there before, or is that of this arrival, which holds the row; and the same
  -- of a body that is parked under a digest
  abbrev pub OldOrHolds : List EventValue → StoreState → ArrivalValue → ℕ → List ℕ → Type 0
  OldOrHolds e k a r body = (k.bodies r ≡ Some body)
      ⊎ ((holds_by digest reads (union e) r (coming (union e) a) ≡ true) × (a.body ≡ body))

  abbrev pub OldOrHas : StoreState → ArrivalValue → List ℕ → List ℕ → Type 0
  OldOrHas k a d body = (k.parked d ≡ Some body) ⊎ ((digest a.body ≡ d) × (a.body ≡ body))

  module _ (e : List EventValue) (k : StoreState) (a : ArrivalValue) (books : AreBooks digest reads e k) where
    abbrev came : Coming
    came = coming (union e) a

    abbrev then : List EventValue
    then = e ++ arrived a ∷ []

    -- the distinct arrivals before this one, and with it
    abbrev before : List Coming
    before = distinct digest reads (comings e)

    abbrev after : List Coming
    after = distinct digest reads (comings then)

    -- the arrivals before that count; and whether one holds a row, or has a digest
    abbrev counts : List Coming
    counts = kept_arrivals digest reads e

    abbrev holding : ℕ → Coming → Bool
    holding r = holds_by digest reads (union e) r

    abbrev under : List ℕ → Coming → Bool
    under d = has_digest digest reads d

    pushed : after ≡ cond (list_any (is_alike a.number (digest a.body)) k.receipts) before (before ++ came ∷ [])
    pushed =
        ap (distinct digest reads) (comings-arrived e a)
        ∙ distinct-push digest reads (comings e) came
        ∙ ap (λ b. cond b before (before ++ came ∷ []))
        (any_kept (comings e) came ∙ ap (list_any (is_alike a.number (digest a.body))) (sym books.receipts))

    -- the reply by receipts
    reply_by : (rs : List ReceiptValue) → receipts_of digest reads then ≡ rs
        → reply_to digest reads then a ≡ reply_alike (union e) 1 a.number (digest a.body) rs
    reply_by rs is = ap₂ (λ (m : List MRow) (x : List ReceiptValue). reply_alike
        m 1 a.number (digest a.body) x) (union-arrived e a) is

    -- ---- bodies, where no two different ones have the same digest

    earlier : (c : Coming) → Among counts c → Among (kept_arrivals digest reads then) c
    earlier c there = subst (λ (l : List Coming). Among l c)
        (sym (kept_arrivals-arrived digest reads e a)) (among-front counts (came ∷ []) c there)

    last : Among (kept_arrivals digest reads then) came
    last = subst (λ (l : List Coming). Among l came)
        (sym (kept_arrivals-arrived digest reads e a)) (among-last counts came)

    pub apart-arrived : IsApart digest reads then → IsApart digest reads e
    apart-arrived apart b c first second same = apart b c (earlier b first) (earlier c second) same

    module _ (apart : IsApart digest reads then) where
      held_then : (r : ℕ) → held_body digest reads then r
          ≡ arrived_body (find (holding r) (counts ++ came ∷ []))
      held_then r =
          ap₂ (λ (m : List MRow) (l : List Coming). arrived_body (find (holds_by digest reads m r) l))
          (union-arrived e a) (kept_arrivals-arrived digest reads e a)

      parked_then : (d : List ℕ) → parked_body digest reads then d ≡ cond (is_some
          (row_with_digest (union e) d)) None (arrived_body (find (under d) (counts ++ came ∷ [])))
      parked_then d = ap₂ (λ (m : List MRow) (l : List Coming). cond (is_some (row_with_digest m d))
          None (arrived_body (find (under d) l)))
          (union-arrived e a) (kept_arrivals-arrived digest reads e a)

      held_now : (r : ℕ) → k.bodies r ≡ arrived_body (find (holding r) counts)
      held_now r = books.bodies (apart-arrived apart) r

      parked_now : (d : List ℕ) → is_some (row_with_digest (union e) d) ≡ false
          → k.parked d ≡ arrived_body (find (under d) counts)
      parked_now d unlisted = books.parked (apart-arrived apart) d
          ∙ ap (λ b. cond b None (arrived_body (find (under d) counts))) unlisted

      -- a row keeps its body, unless this arrival is the first that holds it
      pub old_body : (r : ℕ) → (holding r came ≡ true → IsSome (k.bodies r))
          → k.bodies r ≡ held_body digest reads then r
      old_body r old =
          held_now r
          ∙ ap arrived_body (sym (find-push-old (holding r)
          counts came (λ h. any_found (holding r) counts ∙ sym (ap is_some (held_now r)) ∙ old h)))
          ∙ sym (held_then r)

      pub new_body : (r : ℕ) → k.bodies r ≡ None
          → holding r came ≡ true → Some a.body ≡ held_body digest reads then r
      new_body r none holds =
          ap arrived_body (sym (find-push-new (holding r)
          counts came (no_first (holding r) counts (sym (held_now r) ∙ none)) holds))
          ∙ sym (held_then r)

      -- so is the body that is parked under a digest
      pub old_parked : (d : List ℕ) → (digest a.body ≡ d → is_some (row_with_digest (union e) d) ≡ false
          → IsSome (k.parked d)) → k.parked d ≡ parked_body digest reads then d
      old_parked d old = books.parked (apart-arrived apart) d
          ∙ by_row (is_some (row_with_digest (union e) d)) refl ∙ sym (parked_then d)
        where
          by_row : (b : Bool) → is_some (row_with_digest (union e) d) ≡ b
              → cond b None (arrived_body (find (under d) counts))
              ≡ cond b None (arrived_body (find (under d) (counts ++ came ∷ [])))
          by_row true is = refl
          by_row false is =
              ap arrived_body (sym (find-push-old (under d) counts came
              (λ h. any_found (under d) counts ∙ sym (ap is_some (parked_now d is))
              ∙ old ((bytes_decides (digest a.body) d).0 h) is)))

      pub new_parked : (d : List ℕ) → digest a.body ≡ d → row_with_digest (union e) d ≡ None
          → k.parked d ≡ None → Some a.body ≡ parked_body digest reads then d
      new_parked d same unlisted none =
          let no_old = no_first (under d) counts (sym (parked_now d (ap is_some unlisted)) ∙ none) in
          ap arrived_body (sym (find-push-new (under d) counts came no_old ((bytes_decides (digest a.body) d).1 same)))
          ∙ sym (parked_then d ∙ ap (λ (o : Option ℕ). cond (is_some o)
          None (arrived_body (find (under d) (counts ++ came ∷ [])))) unlisted)

    -- ---- what came for a row or with a digest: it was there before, or is this arrival's

    came_for : (r : ℕ) (body : List ℕ) → OldOrHolds e k a r body → CameFor digest reads then r body
    came_for r body (inl old) = came_by e then (union-arrived e a) earlier r body (books.came r body old)
    came_for r body (inr new) = record {
      arrival = came;
      among = last;
      holds = ap (λ (m : List MRow).
          holds_by digest reads m r came) (union-arrived e a) ∙ new.0;
      is_body = new.1;
    }

    came_with : (d body : List ℕ) → OldOrHas k a d body → CameWith digest reads then d body
    came_with d body (inl old) = with_by e then (union-arrived e a) earlier d body (books.waits d body old)
    came_with d body (inr new) = record { arrival = came; among = last; digest_is = new.0; is_body = new.1 }

    -- the books with these receipts, bodies and parked bodies: each body was there before, or is this
    -- arrival's, and a receipt tells of it
    pub books_then : (receipts : List ReceiptValue)
        (bodies : ℕ → Option (List ℕ)) (parked : List ℕ → Option (List ℕ))
        → receipts ≡ receipts_of digest reads then
        → (IsApart digest reads then → (r : ℕ) → bodies r ≡ held_body digest reads then r)
        → (IsApart digest reads then → (d : List ℕ) → parked d ≡ parked_body digest reads then d)
        → ((r : ℕ) (body : List ℕ) → bodies r ≡ Some body → OldOrHolds e k a r body)
        → ((d body : List ℕ) → parked d ≡ Some body → OldOrHas k a d body)
        → ((r : ℕ) → Any (SaysHeld r) receipts → IsSome (bodies r))
        → ((r : ℕ) → IsSome (bodies r) → Any (TellsOf (union e) r) receipts)
        → ((d : List ℕ) → IsSome (parked d) → Any (TellsUnlisted d) receipts)
        → AreBooks digest reads then (record k { receipts = receipts; bodies = bodies; parked = parked })
    books_then receipts bodies parked receipts_are bodies_are parked_are come wait told tell tells = record {
      listed = books.listed ∙ sym (union-arrived e a);
      receipts = receipts_are;
      bodies = bodies_are;
      parked = parked_are;
      moment = books.moment ∙ sym (moment-arrived e a);
      came = λ r body at. came_for r body (come r body at);
      waits = λ d body at. came_with d body (wait d body at);
      told = told;
      held_told = λ r some. subst (λ (m : List MRow). Any (TellsOf m r) receipts)
          (sym (union-arrived e a)) (tell r some);
      parked_told = tells;
    }

    -- a duplicate of an earlier arrival: there is no receipt more
    pub no_more_receipts : (y : ReplyValue) → reply_alike (union e)
        1 a.number (digest a.body) k.receipts ≡ Some y → k.receipts ≡ receipts_of digest reads then
    no_more_receipts y there =
        let was = some_alike (union e) a.number (digest a.body) 1 k.receipts y there in
        books.receipts ∙ sym (ap (receipts_after digest reads [])
        (pushed ∙ ap (λ b. cond b before (before ++ came ∷ [])) was))

    -- ---- an arrival that is no duplicate
    module _ (none : reply_alike (union e) 1 a.number (digest a.body) k.receipts ≡ None) where
      pub more_receipts : receipts_of digest reads then ≡ k.receipts ++ receipt_for digest reads before came ∷ []
      more_receipts =
          let one_more = pushed ∙ ap (λ b. cond b before (before ++ came ∷ []))
          (none_alike (union e) a.number (digest a.body) 1 k.receipts none) in
          ap (receipts_after digest reads []) one_more
          ∙ receipts-push digest reads [] before came
          ∙ ap (λ (x : List ReceiptValue). x ++ receipt_for digest reads before came ∷ []) (sym books.receipts)

      pub new_reply : reply_to digest reads then a
          ≡ Some (reply_kept (union e) (1 + length k.receipts) (receipt_for digest reads before came))
      new_reply =
          reply_by _ more_receipts
          ∙ alike-last (union e) a.number (digest a.body)
          1 k.receipts (receipt_for digest reads before came) none here
        where
          unor : (x : Bool) → (x || false) ≡ true → x ≡ true
          unor true e = refl
          unor false e = absurd (true≢false (sym e))

          here : is_alike a.number (digest a.body) (receipt_for digest reads before came) ≡ true
          here = unor _ (kept_any digest reads before (came ∷ []) came
              ∙ ap (λ b. b || false) ((alike_laws digest reads).refl came))
