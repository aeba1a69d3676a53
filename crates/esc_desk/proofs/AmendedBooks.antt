-- The books after an amendment, and after a moment was set.
use Rattle.std.proofs.Common.{◌≡◌, inl, inr, ℕ, ℤ, ◌<◌, ◌≤◌, nat_lt, List, [], ◌∷◌}
use Rattle.std.proofs.Common.{◌++◌, length, Bool, true, false, cond}
use Rattle.std.proofs.Common.{Option, Some, None, IsSome, is_some, refl, sym, ap, subst, ◌∙◌, arith}
use Rattle.std.proofs.Common.{true≢false, length-append}
use Rattle.std.specs.List.{Any}
use Rattle.std.proofs.lemmas.Bool.Decides.{nat_tests}
use Rattle.std.proofs.lemmas.Option.{none-some}
use Rattle.sha2.specs.Sha256.{sha256}
use Rattle.esc_tables.specs.Reading.{reading}
use Rattle.esc_manifest.specs.declared.row.MRow.{MRow}
use Rattle.esc_manifest.specs.ManifestRows.{row_at}
use Rattle.esc_manifest.specs.Accepted.{IsAccepted}
use Rattle.esc_manifest.specs.Extension.{new_rows, extended}
use Rattle.esc_store.specs.ReplyValue.{ReceiptValue, reply_alike}
use Rattle.esc_store.specs.StoreState.{StoreState, SaysHeld, TellsUnlisted, with_listed, with_moment}
use Rattle.esc_store.specs.ListLaws.{any_weaker}
use Rattle.esc_events.specs.ArrivalValue.{ArrivalValue}
use Rattle.esc_events.specs.Events.{EventValue, Coming, union, comings, last_moment}
use Rattle.esc_events.specs.Events.EventValue.{listed, moved}
use Rattle.esc_events.specs.Assessment.{found, row_with_digest}
use Rattle.esc_events.specs.Receipts.{holds_row, distinct, receipts_after, receipts_of, reply_to}
use Rattle.esc_events.specs.StateAfter.{AreBooks, IsApart, TellsOf, CameFor, holds_by, kept_arrivals}
use Rattle.esc_events.specs.StateAfter.{held_body, parked_body}
use Rattle.esc_events.specs.Amended.{judged, amended_bodies, still_parked, amended_kept}
use Rattle.esc_desk.proofs.AmendingLemmas.{row_is, row_has, row_held, listed_still, holds_same, judged_at, judged_some}
use Rattle.esc_desk.proofs.AmendingLemmas.{reply_same, rows_short, receipts_below}
use Rattle.esc_desk.proofs.AmendingEvents.{came_under, holds_as, receipts_as, apart_as, held_as}
use Rattle.esc_desk.proofs.AmendingEvents.{parked_as, came_as, waits_as, held_is, parked_is}
use Rattle.esc_desk.proofs.AmendingKept.{StayBesides, rest_stays, parked_was, parked_are, bodies_are}
use Rattle.esc_desk.proofs.Members.{distinct_among}
use Rattle.esc_desk.proofs.MovingLemmas.{first_row}
use Rattle.esc_desk.proofs.Telling.{any_of_row}
use Rattle.esc_desk.proofs.EventLemmas.{union-listed, comings-listed, moment-listed, union-moved}
use Rattle.esc_desk.proofs.EventLemmas.{comings-moved, moment-moved}

no_shorter : (m more : List MRow) → length m ≤ length (extended m more)
no_shorter m more = omega (arith, length-append m (new_rows m more))

-- the same of the bodies that a store keeps
pub kept_bodies : (k : StoreState) (more : List MRow) → IsAccepted (extended k.listed more)
    → ((r : ℕ) (body : List ℕ) → k.bodies r ≡ Some body → r < length k.listed) → (r : ℕ)
    → (amended_kept k more).bodies r ≡ amended_bodies (extended k.listed more) k.parked (length k.listed) k.bodies r
kept_bodies k more ok few r =
    bodies_are (extended k.listed more) ok k (length k.listed) (no_shorter k.listed more) few r

-- the books after an amendment
pub books_amended : (e : List EventValue) (k : StoreState) (more : List MRow)
    → AreBooks sha256 reading e k → IsAccepted (union e) → IsAccepted (extended (union e) more)
    → AreBooks sha256 reading (e ++ listed more ∷ []) (amended_kept k more)
books_amended e k more books ok okn = record {
  listed = rest.0 ∙ rows_k ∙ sym rows;
  receipts = rest.1 ∙ books.receipts ∙ sym (receipts_as sha256 e f came);
  bodies = λ apart r. bodies_held (apart_as sha256 e f came apart) r;
  parked = λ apart d. parked_still (apart_as sha256 e f came apart) d;
  moment = rest.2 ∙ books.moment ∙ sym (moment-listed e more);
  came = λ r body is. came_for r body (nat_lt r (length k.listed))
      refl (nat_lt r (length n)) refl (sym (kept_bodies k more okk few r) ∙ is);
  waits = λ d body is. waits_as sha256 e f came d body
      (books.waits d body (parked_was n okk k (length k.listed) (no_shorter k.listed more) d body is));
  told = λ r any. told_of r (books.told r (subst (Any (SaysHeld r)) rest.1 any)) (k.bodies r) refl;
  held_told = λ r some. by_body r ((amended_kept k more).bodies r) refl some;
  parked_told = λ d some. by_parked d ((amended_kept k more).parked d) refl some;
}
  where
    f : List EventValue
    f = e ++ listed more ∷ []

    n : List MRow
    n = extended k.listed more

    came : comings (e ++ listed more ∷ []) ≡ comings e
    came = comings-listed e more

    rows : union (e ++ listed more ∷ []) ≡ extended (union e) more
    rows = union-listed e more

    rows_k : extended k.listed more ≡ extended (union e) more
    rows_k = ap (λ (m : List MRow). extended m more) books.listed

    okm : IsAccepted k.listed
    okm = subst IsAccepted (sym books.listed) ok

    okk : IsAccepted (extended k.listed more)
    okk = subst IsAccepted (sym rows_k) okn

    rest : StayBesides (with_listed k (extended k.listed more)) (amended_kept k more)
    rest = rest_stays n okk k (length k.listed) (no_shorter k.listed more)

    in_union : (r : ℕ) (body : List ℕ) → k.bodies r ≡ Some body → r < length (union e)
    in_union r body is =
        let c = books.came r body is in
        (row_held sha256 reading (union e) r c.arrival c.holds).0

    few : (r : ℕ) (body : List ℕ) → k.bodies r ≡ Some body → r < length k.listed
    few r body is = subst (λ (m : List MRow). r < length m) (sym books.listed) (in_union r body is)

    bodies_held : IsApart sha256 reading e
        → (r : ℕ) → (amended_kept k more).bodies r ≡ held_body sha256 reading (e ++ listed more ∷ []) r
    bodies_held apart r =
        let same_parked : k.parked ≡ parked_body sha256 reading e = λ i d. books.parked apart d i in
        let same_bodies : k.bodies ≡ held_body sha256 reading e = λ i q. books.bodies apart q i in
        kept_bodies k more okk few r
        ∙ ap (λ (m : List MRow). amended_bodies (extended m more) k.parked (length m) k.bodies r) books.listed
        ∙ ap (λ (g : List ℕ → Option (List ℕ)). amended_bodies (extended (union e) more)
        g (length (union e)) k.bodies r) same_parked
        ∙ ap (λ (b : ℕ → Option (List ℕ)). amended_bodies (extended (union e) more)
        (parked_body sha256 reading e) (length (union e)) b r) same_bodies
        ∙ held_is sha256 e more ok okn apart r

    was_listed : (d : List ℕ) (q : ℕ) → row_with_digest (extended k.listed more) d ≡ Some q
        → q < length k.listed → row_with_digest (union e) d ≡ Some q
    was_listed d q row lt =
        let at = row_has n d row in
        ap (λ (m : List MRow). row_with_digest m d) (sym books.listed)
        ∙ row_is okm lt (ap (λ (x : MRow). x.digest)
        (sym (first_row k.listed (new_rows k.listed more) q lt)) ∙ at.1)

    parked_still : IsApart sha256 reading e → (d : List ℕ)
        → (amended_kept k more).parked d ≡ parked_body sha256 reading (e ++ listed more ∷ []) d
    parked_still apart d =
        parked_are n okk k (length k.listed) (no_shorter k.listed more) d none
        ∙ ap (λ (m : List MRow). still_parked m k.parked d) rows_k
        ∙ ap (λ (o : Option (List ℕ)). cond (is_some (row_with_digest (extended (union e) more) d))
        None o) (books.parked apart d)
        ∙ parked_is sha256 e more ok okn d
      where
        none : (q : ℕ) → row_with_digest (extended k.listed more) d ≡ Some q
            → q < length k.listed → k.parked d ≡ None
        none q row lt = books.parked apart d ∙ ap (λ (o : Option ℕ). cond (is_some o)
            None (came_under sha256 (kept_arrivals sha256 reading e) d)) (was_listed d q row lt)

    came_for : (r : ℕ) (body : List ℕ) (s : Bool)
        → nat_lt r (length k.listed) ≡ s → (t : Bool) → nat_lt r (length (extended k.listed more)) ≡ t
        → cond s (k.bodies r) (cond t (judged (extended k.listed more)
        r (k.parked (row_at (extended k.listed more) r).digest)) None) ≡ Some body
        → CameFor sha256 reading (e ++ listed more ∷ []) r body
    came_for r body true old t lt is =
        came_as sha256 e f came r r body
        (λ c holds. ap (λ (m : List MRow). holds_by sha256 reading m r c) rows ∙ holds_same
        sha256 reading (new_rows (union e) more) ok okn r (in_union r body is) c ∙ holds)
        (books.came r body is)
    came_for r body false new true lt is =
        let x = judged_some n r (k.parked (row_at n r).digest) body is in
        let inside : r < length n = grind (arith, nat_tests, lt) in
        holds_as sha256 e f came (row_at n r).digest r body
        (λ c digests bodies.
        ap (λ (m : List MRow). holds_by sha256 reading m r c) (rows ∙ sym rows_k)
        ∙ judged_at sha256 okk inside c digests
        ∙ ap (λ (b : List ℕ). holds_row r (found n r (reading b))) bodies
        ∙ x.1)
        (books.waits (row_at n r).digest body x.0)
    came_for r body false new false lt is = absurd (none-some _ is)

    told_of : (r : ℕ) → IsSome (k.bodies r)
        → (o : Option (List ℕ)) → k.bodies r ≡ o → IsSome ((amended_kept k more).bodies r)
    told_of r some None is = absurd (true≢false (sym some ∙ ap (λ (o : Option (List ℕ)). is_some o) is))
    told_of r some (Some body) is =
        let lt : r < length k.listed = few r body is in
        let test : nat_lt r (length k.listed) ≡ true = grind (arith, nat_tests, lt) in
        ap (λ (o : Option (List ℕ)). is_some o)
        (kept_bodies k more okk few r ∙ ap (λ (t : Bool). cond t (k.bodies r)
        (cond (nat_lt r (length n)) (judged n r (k.parked (row_at n r).digest)) None)) test)
        ∙ some

    -- a receipt tells of a row as it did before, or of a row that is new
    still_tells : (r : ℕ) (receipt : ReceiptValue) → TellsOf (union e) r receipt → TellsOf (union f) r receipt
    still_tells r receipt (inl says) = inl says
    still_tells r receipt (inr tells) =
        let lists = listed_still (union e) (new_rows (union e) more) receipt.digest r tells.1 in
        inr (tells.0, ap (λ (m : List MRow). row_with_digest m receipt.digest) rows ∙ lists)

    by_source : (r : ℕ) (body : List ℕ) (s : Bool)
        → nat_lt r (length k.listed) ≡ s → (t : Bool) → nat_lt r (length (extended k.listed more)) ≡ t
        → cond s (k.bodies r) (cond t (judged (extended k.listed more)
        r (k.parked (row_at (extended k.listed more) r).digest)) None) ≡ Some body
        → Any (TellsOf (union f) r) k.receipts
    by_source r body true old t lt is = any_weaker (TellsOf (union e) r)
        (TellsOf (union f) r) (still_tells r) k.receipts (books.held_told r (ap is_some is))
    by_source r body false new true lt is =
        let inside : r < length n = grind (arith, nat_tests, lt) in
        any_of_row (union f) (row_at n r).digest r
        (ap (λ (m : List MRow). row_with_digest m (row_at n r).digest) (rows ∙ sym rows_k)
        ∙ row_is okk inside refl)
        k.receipts
        (books.parked_told (row_at n r).digest (ap is_some (judged_some n r (k.parked (row_at n r).digest) body is).0))
    by_source r body false new false lt is = absurd (none-some _ is)

    by_body : (r : ℕ) (o : Option (List ℕ))
        → (amended_kept k more).bodies r ≡ o → IsSome ((amended_kept k more).bodies r)
        → Any (TellsOf (union f) r) (amended_kept k more).receipts
    by_body r None is some = absurd (true≢false (sym some ∙ ap is_some is))
    by_body r (Some body) is some =
        subst (Any (TellsOf (union f) r)) (sym rest.1)
        (by_source r body (nat_lt r (length k.listed))
        refl (nat_lt r (length n)) refl (sym (kept_bodies k more okk few r) ∙ is))

    by_parked : (d : List ℕ) (o : Option (List ℕ))
        → (amended_kept k more).parked d ≡ o → IsSome ((amended_kept k more).parked d)
        → Any (TellsUnlisted d) (amended_kept k more).receipts
    by_parked d None is some = absurd (true≢false (sym some ∙ ap is_some is))
    by_parked d (Some body) is some =
        subst (Any (TellsUnlisted d)) (sym rest.1)
        (books.parked_told d (ap is_some (parked_was n okk k (length k.listed) (no_shorter k.listed more) d body is)))

-- the books by other events with the same rows and arrivals, where another moment may be set
pub books_as : (e f : List EventValue) (k : StoreState) (moment : Option ℤ)
    → union f ≡ union e → comings f ≡ comings e → moment ≡ last_moment f
    → AreBooks sha256 reading e k → AreBooks sha256 reading f (with_moment k moment)
books_as e f k moment rows same last books = record {
  listed = books.listed ∙ sym rows;
  receipts = books.receipts ∙ sym (receipts_as sha256 e f same);
  bodies = λ apart r. books.bodies (apart_as sha256 e f same apart) r
      ∙ sym (held_as sha256 e f same (union e) rows r);
  parked = λ apart d. books.parked (apart_as sha256 e f same apart) d
      ∙ sym (parked_as sha256 e f same (union e) rows d);
  moment = last;
  came = λ r body is. came_as sha256 e f same r r body (λ c holds. ap
      (λ (m : List MRow). holds_by sha256 reading m r c) rows ∙ holds) (books.came r body is);
  waits = λ d body is. waits_as sha256 e f same d body (books.waits d body is);
  told = books.told;
  held_told = λ r some. subst (λ (m : List MRow). Any (TellsOf m r) k.receipts) (sym rows) (books.held_told r some);
  parked_told = books.parked_told;
}

-- the books after a moment was set
pub books_of_moment : (e : List EventValue) (k : StoreState) (moment : Option ℤ) → AreBooks
    sha256 reading e k → AreBooks sha256 reading (e ++ moved moment ∷ []) (with_moment k moment)
books_of_moment e k moment books =
    books_as e (e ++ moved moment ∷ []) k moment (union-moved e moment)
    (comings-moved e moment) (sym (moment-moved e moment)) books

-- a reply stays as it was when more rows are listed
pub replies_stay : (e : List EventValue) (more : List MRow) (a : ArrivalValue)
    → reply_to sha256 reading (e ++ listed more ∷ []) a ≡ reply_to sha256 reading e a
replies_stay e more a =
    ap (λ (cs : List Coming). reply_alike (union (e ++ listed more ∷ [])) 1 a.number (sha256 a.body)
    (receipts_after sha256 reading [] (distinct sha256 reading cs))) (comings-listed e more)
    ∙ ap (λ (m : List MRow). reply_alike m 1 a.number (sha256 a.body) (receipts_of sha256 reading e))
    (union-listed e more)
    ∙ reply_same (union e) (new_rows (union e) more) 1 a.number (sha256 a.body) (receipts_of sha256 reading e)
    (receipts_below sha256 reading (length (union e)) [] (distinct sha256 reading (comings e))
    (λ c among. rows_short [] e c (distinct_among sha256 reading (comings e) c among)))
