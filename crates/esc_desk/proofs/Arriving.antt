-- The books after one more arrival.
use Rattle.std.proofs.Common.{◌≡◌, ◌⊎◌, inl, inr, ℕ, Bool, true, false, cond, ◌==◌, List, []}
use Rattle.std.proofs.Common.{◌∷◌, ◌++◌, Option, Some, None, IsSome, is_some, refl, sym, ap, subst}
use Rattle.std.proofs.Common.{◌∙◌, true≢false}
use Rattle.std.specs.List.{list_any, Any}
use Rattle.std.specs.Str.{bytes_eq}
use Rattle.std.specs.FinSet as set
use Rattle.std.specs.Ordering.{nat_cmp, eq_by_cmp}
use Rattle.std.specs.Cmp.{both_ways, nat_cmp_total, eq_by_cmp_equiv}
use Rattle.std.specs.Cmp.Lexicographic.{bytes_decides}
use Rattle.std.proofs.lemmas.Map.Views.{list_any-from_Contains, Contains-from_any}
use Rattle.std.proofs.lemmas.Option.{same_Some, none-some}
use Rattle.std.proofs.lemmas.Bool.{eqb-true}
use Rattle.sha2.specs.Sha256.{sha256}
use Rattle.esc_tables.specs.DepositValue.{DepositValue}
use Rattle.esc_tables.specs.Reading.{reading}
use Rattle.esc_store.specs.StoreState.{StoreState, SaysHeld, TellsUnlisted, is_unlisted, AreHeldBy}
use Rattle.esc_store.specs.StoreState.{body_put, parked_put, with_body, with_parked}
use Rattle.esc_store.specs.ReplyValue.{ReplyValue, ReceiptValue}
use Rattle.esc_store.specs.ListLaws.{any_front_or_last, any_front, any_last}
use Rattle.esc_events.specs.declared.assessment.Assessment.{Assessment}
use Rattle.esc_events.specs.declared.assessment.Assessment.TheVariants.{Unlisted, Holding}
use Rattle.esc_events.specs.declared.cache.Cache.{Cache}
use Rattle.esc_events.specs.ArrivalValue.{ArrivalValue}
use Rattle.esc_events.specs.Events.{EventValue, Coming, union, coming, comings}
use Rattle.esc_events.specs.Events.EventValue.{arrived}
use Rattle.esc_events.specs.Assessment.{assessment, found_at, held_row, row_with_digest}
use Rattle.esc_events.specs.Receipts.{is_row, holds_row, holds, holds_any, is_among, distinct}
use Rattle.esc_events.specs.Receipts.{receipt_by, receipt_for, receipts_after, receipts_of}
use Rattle.esc_events.specs.StateAfter.{TellsOf, holds_by, held_body, parked_body, IsApart, AreBooks}
use Rattle.esc_events.specs.Taking.{IsNew, IsAgain}
use Rattle.esc_events.specs.HeldLaws.{same_self, exact, holding_listed}
use Rattle.esc_desk.proofs.AmendingLemmas.{row_found}
use Rattle.esc_desk.proofs.HeldReceipts.{any_holds, any_says}
use Rattle.esc_desk.proofs.HeldRows.{is_row_of, unlisted_row}
use Rattle.esc_desk.proofs.KnownRows.{says_row, row_said}
use Rattle.esc_desk.proofs.OneArrival.{OldOrHolds, OldOrHas, old_body, new_body, old_parked, new_parked}
use Rattle.esc_desk.proofs.OneArrival.{books_then, no_more_receipts, more_receipts}
use Rattle.esc_desk.proofs.Telling.{any_of_row, told_again}

-- ---- the receipt

-- the rows that receipts say are held are those that the arrivals before held
told_before : (before : List Coming) (rows : List ℕ) → AreHeldBy (receipts_after sha256 reading [] before) rows
    → (row : Option ℕ) → is_among rows row ≡ holds_any sha256 reading before row
told_before before rows told None = refl
told_before before rows told (Some r) = sym (set.contains-from_list_nat rows r)
    ∙ set.contains-from_list nat_cmp_total rows r ∙ both_ways _ _ there back
  where
    there : list_any (eq_by_cmp nat_cmp r) rows ≡ true → list_any (holds sha256 reading r) before ≡ true
    there any = any_holds sha256 reading r [] before ((told.each r).0 (Contains-from_any exact r rows any))

    back : list_any (holds sha256 reading r) before ≡ true → list_any (eq_by_cmp nat_cmp r) rows ≡ true
    back any = list_any-from_Contains (eq_by_cmp_equiv nat_cmp_total)
        r rows ((told.each r).1 (any_says sha256 reading r [] before any))

-- a new arrival gets the receipt that the definition gives it
pub new_receipt : (e : List EventValue) (a : ArrivalValue) (k : StoreState)
    (found : Assessment) (cache : Cache) (receipt : ReceiptValue) → IsNew e a k found cache receipt
    → receipt ≡ receipt_for sha256 reading (distinct sha256 reading (comings e)) (coming (union e) a)
new_receipt e a k found cache receipt is =
    is.receipt_is
    ∙ ap (λ (f : Assessment). receipt_by a.number (sha256 a.body)
    false f (is_among cache.rows_with_receipt.items (held_row f))) is.found_is
    ∙ ap (receipt_by a.number (sha256 a.body) false (assessment sha256 reading (union e) a.body))
    (told_before (distinct sha256 reading (comings e))
    cache.rows_with_receipt.items told (held_row (assessment sha256 reading (union e) a.body)))
  where
    told : AreHeldBy (receipts_after sha256 reading [] (distinct sha256 reading (comings e)))
        cache.rows_with_receipt.items
    told = subst (λ (rs : List ReceiptValue). AreHeldBy rs cache.rows_with_receipt.items)
        is.stood.books.receipts is.cache_is.told

no_row : (o : Option ℕ) → is_some o ≡ false → o ≡ None
no_row None is = refl
no_row (Some q) is = absurd (true≢false is)

-- ---- what receipts tell of an arrival

-- this was found of an arrival, and these are the receipts with it: a row that they say is held was
-- so before, or was found; and they tell of what they told of before, and of the arrival's body
pub record IsNoted (e : List EventValue) (a : ArrivalValue)
    (k : StoreState) (found : Assessment) (receipts : List ReceiptValue) : Type 0 where
  pub books : AreBooks sha256 reading e k
  pub found_is : found ≡ assessment sha256 reading (union e) a.body
  pub receipts_are : receipts ≡ receipts_of sha256 reading (e ++ arrived a ∷ [])
  pub told : (r : ℕ) → Any (SaysHeld r) receipts → IsSome (k.bodies r) ⊎ (held_row found ≡ Some r)
  pub kept_rows : (r : ℕ) → Any (TellsOf (union e) r) k.receipts → Any (TellsOf (union e) r) receipts
  pub kept_parked : (d : List ℕ) → Any (TellsUnlisted d) k.receipts → Any (TellsUnlisted d) receipts
  pub of_row : (r : ℕ) → held_row found ≡ Some r → Any (TellsOf (union e) r) receipts
  pub of_body : found ≡ Unlisted → Any (TellsUnlisted (sha256 a.body)) receipts

-- one that is new has a receipt
pub noted_new : {e : List EventValue} {a : ArrivalValue} {k : StoreState}
    {found : Assessment} {cache : Cache} {receipt : ReceiptValue} → IsNew e a k found cache receipt
    → IsNoted e a k found (k.receipts ++ receipt ∷ [])
noted_new {e = e} {a = a} {k = k} {found = found} {cache = cache} {receipt = receipt} is =
    let again = is_among cache.rows_with_receipt.items (held_row found) in
    record {
      books = is.stood.books;
      found_is = is.found_is;
      receipts_are = ap (λ (r : ReceiptValue). k.receipts ++ r ∷ []) (new_receipt e
          a k found cache receipt is) ∙ sym (more_receipts sha256 reading e k a is.stood.books is.none);
      told = λ r any. by_receipt r (any_front_or_last (SaysHeld r) k.receipts receipt any);
      kept_rows = λ r any. any_front (TellsOf (union e) r) k.receipts receipt any;
      kept_parked = λ d any. any_front (TellsUnlisted d) k.receipts receipt any;
      of_row = λ r held.
          let says = says_row a.number (sha256 a.body) found again r held in
          any_last (TellsOf (union e) r) k.receipts receipt (inl (subst (SaysHeld r) (sym is.receipt_is) says));
      of_body = λ unlisted.
          let told = is.receipt_is
          ∙ ap (λ (f : Assessment). receipt_by a.number (sha256 a.body) false f again) unlisted in
          any_last (TellsUnlisted (sha256 a.body)) k.receipts receipt (
            ap (λ (r : ReceiptValue).
                is_unlisted r.verdict) told,
            ap (λ (r : ReceiptValue). r.digest) told,
          );
    }
  where
    by_receipt : (r : ℕ) → Any (SaysHeld r) k.receipts ⊎ SaysHeld r receipt
        → IsSome (k.bodies r) ⊎ (held_row found ≡ Some r)
    by_receipt r (inl old) = inl (is.stood.books.told r old)
    by_receipt r (inr new) = inr (row_said a.number (sha256 a.body) found _ r (subst (SaysHeld r) is.receipt_is new))

-- one that comes again after the reply A2 has none: the receipt of that reply tells of it
pub noted_again : {e : List EventValue} {a : ArrivalValue} {k : StoreState} {found : Assessment}
    {reply : ReplyValue} → IsAgain e a k found reply → IsNoted e a k found k.receipts
noted_again {e = e} {a = a} {k = k} {found = found} {reply = reply} is =
    let tells = told_again (union e) a.number (sha256 a.body) 1 k.receipts reply is.kept is.verdict in
    record {
      books = is.stood.books;
      found_is = is.found_is;
      receipts_are = no_more_receipts sha256 reading e k a is.stood.books reply is.kept;
      told = λ r any. inl (is.stood.books.told r any);
      kept_rows = λ r any. any;
      kept_parked = λ d any. any;
      of_row = λ r held.
          let holds = ap (is_row r) (ap held_row (sym is.found_is) ∙ held) ∙ same_self r in
          let lists = row_found (union e) r (row_with_digest (union e) (sha256 a.body)) (reading a.body) holds in
          any_of_row (union e) (sha256 a.body) r lists k.receipts tells;
      of_body = λ unlisted. tells;
    }

-- ---- the books with the arrival

module _ {e : List EventValue} {a : ArrivalValue} {k : StoreState}
    {found : Assessment} {receipts : List ReceiptValue} (is : IsNoted e a k found receipts) where
  abbrev then : List EventValue
  then = e ++ arrived a ∷ []

  -- the row that the body holds was found
  found_row : (r : ℕ) → holds_by sha256 reading (union e) r (coming (union e) a) ≡ true
      → held_row found ≡ Some r
  found_row r holds = ap held_row is.found_is
      ∙ is_row_of r (held_row (assessment sha256 reading (union e) a.body)) holds

  -- and that no row lists it
  found_unlisted : (d : List ℕ)
      → sha256 a.body ≡ d → is_some (row_with_digest (union e) d) ≡ false → found ≡ Unlisted
  found_unlisted d same none =
      is.found_is
      ∙ ap (λ (o : Option ℕ). found_at (union e) o (reading a.body))
      (no_row (row_with_digest (union e) (sha256 a.body))
      (ap (λ (x : List ℕ). is_some (row_with_digest (union e) x)) same ∙ none))

  -- parked bodies that stay are told of
  still_told : (d : List ℕ) → IsSome (k.parked d) → Any (TellsUnlisted d) receipts
  still_told d some = is.kept_parked d (is.books.parked_told d some)

  books_by : (bodies : ℕ → Option (List ℕ)) (parked : List ℕ → Option (List ℕ))
      → (IsApart sha256 reading then → (r : ℕ) → bodies r ≡ held_body sha256 reading then r)
      → (IsApart sha256 reading then → (d : List ℕ) → parked d ≡ parked_body sha256 reading then d)
      → ((r : ℕ) (body : List ℕ) → bodies r ≡ Some body → OldOrHolds sha256 reading e k a r body)
      → ((d body : List ℕ) → parked d ≡ Some body → OldOrHas sha256 reading k a d body)
      → ((r : ℕ) → IsSome (k.bodies r) ⊎ (held_row found ≡ Some r) → IsSome (bodies r))
      → ((d : List ℕ) → IsSome (parked d) → Any (TellsUnlisted d) receipts)
      → AreBooks sha256 reading then (record k { receipts = receipts; bodies = bodies; parked = parked })
  books_by bodies parked bodies_are parked_are come wait stays tells =
      books_then sha256 reading e k a is.books receipts bodies parked is.receipts_are bodies_are parked_are come wait
      (λ r any. stays r (is.told r any)) (λ r some. by_body r (bodies r) refl some) tells
    where
      by_source : (r : ℕ) (body : List ℕ)
          → OldOrHolds sha256 reading e k a r body → Any (TellsOf (union e) r) receipts
      by_source r body (inl old) = is.kept_rows r (is.books.held_told r (ap is_some old))
      by_source r body (inr new) = is.of_row r (found_row r new.0)

      by_body : (r : ℕ) (o : Option (List ℕ))
          → bodies r ≡ o → IsSome (bodies r) → Any (TellsOf (union e) r) receipts
      by_body r None at some = absurd (true≢false (sym some ∙ ap is_some at))
      by_body r (Some body) at some = by_source r body (come r body at)

  -- nothing is stored: the body is there, or it is no row's deposit
  pub books_there : (found ≡ Unlisted → IsSome (k.parked (sha256 a.body)))
      → ((q : ℕ) → held_row found ≡ Some q → IsSome (k.bodies q))
      → AreBooks sha256 reading then (record k { receipts = receipts })
  books_there waits held =
      books_by k.bodies k.parked
      (λ apart r. old_body sha256 reading e k a is.books apart r (λ holds. held r (found_row r holds)))
      (λ apart d. old_parked sha256 reading e k a is.books apart d (λ same none. subst
      (λ (x : List ℕ). IsSome (k.parked x)) same (waits (found_unlisted d same none))))
      (λ r body at. inl at)
      (λ d body at. inl at)
      stays
      still_told
    where
      stays : (r : ℕ) → IsSome (k.bodies r) ⊎ (held_row found ≡ Some r) → IsSome (k.bodies r)
      stays r (inl some) = some
      stays r (inr row) = held r row

  -- no row lists the body, and it is parked under its digest
  pub books_parked : found ≡ Unlisted → k.parked (sha256 a.body) ≡ None → AreBooks
      sha256 reading then (with_parked (record k { receipts = receipts }) (sha256 a.body) (Some a.body))
  books_parked none_lists nothing =
      books_by k.bodies (parked_put k.parked (sha256 a.body) (Some a.body))
      (λ apart r. old_body sha256 reading e k a is.books apart r (λ holds. absurd (none_held r (found_row r holds))))
      (λ apart d. parked_are apart d (bytes_eq (sha256 a.body) d) refl)
      (λ r body at. inl at)
      (λ d body put. waits d body (bytes_eq (sha256 a.body) d) refl put)
      stays
      (λ d some. tells d (bytes_eq (sha256 a.body) d) refl some)
    where
      none_held : (r : ℕ) → held_row found ≡ Some r → ⊥
      none_held r held = none-some _ (ap held_row (sym none_lists) ∙ held)

      row_is_none : row_with_digest (union e) (sha256 a.body) ≡ None
      row_is_none = unlisted_row (union e)
          (row_with_digest (union e) (sha256 a.body)) (reading a.body) (sym is.found_is ∙ none_lists)

      parked_are : IsApart sha256 reading then → (d : List ℕ) (b : Bool) → bytes_eq (sha256 a.body) d
          ≡ b → cond b (Some a.body) (k.parked d) ≡ parked_body sha256 reading then d
      parked_are apart d true same =
          let digest : sha256 a.body ≡ d = (bytes_decides (sha256 a.body) d).0 same in
          new_parked sha256 reading e k a is.books apart d digest
          (subst (λ (x : List ℕ). row_with_digest (union e) x ≡ None) digest row_is_none)
          (subst (λ (x : List ℕ). k.parked x ≡ None) digest nothing)
      parked_are apart d false other =
          old_parked sha256 reading e k a is.books apart d (λ same none. absurd
          (true≢false (sym ((bytes_decides (sha256 a.body) d).1 same) ∙ other)))

      waits : (d body : List ℕ) (b : Bool) → bytes_eq (sha256 a.body) d ≡ b
          → cond b (Some a.body) (k.parked d) ≡ Some body → OldOrHas sha256 reading k a d body
      waits d body true same put = inr ((bytes_decides (sha256 a.body) d).0 same, same_Some _ _ put)
      waits d body false other put = inl put

      stays : (r : ℕ) → IsSome (k.bodies r) ⊎ (held_row found ≡ Some r) → IsSome (k.bodies r)
      stays r (inl some) = some
      stays r (inr row) = absurd (none_held r row)

      tells : (d : List ℕ) (b : Bool) → bytes_eq (sha256 a.body) d ≡ b
          → IsSome (cond b (Some a.body) (k.parked d)) → Any (TellsUnlisted d) receipts
      tells d true same some = subst (λ (x : List ℕ). Any (TellsUnlisted x) receipts)
          ((bytes_decides (sha256 a.body) d).0 same) (is.of_body none_lists)
      tells d false other some = still_told d some

  -- the body is the deposit of a row that has no body yet, and is held for it
  pub books_held : (row : ℕ) (d : DepositValue) → found ≡ Holding row d → k.bodies row ≡ None
      → AreBooks sha256 reading then (with_body (record k { receipts = receipts }) row a.body)
  books_held row d holding none =
      books_by (body_put k.bodies row a.body) k.parked
      (λ apart r. bodies_are apart r (r == row) refl)
      (λ apart g. old_parked sha256 reading e k a is.books apart
      g (λ same none. absurd (holding_listed row d (sym holding ∙ found_unlisted g same none))))
      (λ r body put. comes r body (r == row) refl put)
      (λ g body at. inl at)
      stays
      still_told
    where
      put_holds : (r : ℕ) → row ≡ r → holds_by sha256 reading (union e) r (coming (union e) a) ≡ true
      put_holds r same = ap (holds_row r) (sym is.found_is ∙ holding)
          ∙ ap (λ (q : ℕ). q == r) same ∙ same_self r

      here : (r : ℕ) → held_row found ≡ Some r → (r == row) ≡ true
      here r held = ap (λ (q : ℕ). r == q) (same_Some _ _ (ap held_row (sym holding) ∙ held)) ∙ same_self r

      bodies_are : IsApart sha256 reading then → (r : ℕ) (b : Bool)
          → (r == row) ≡ b → cond b (Some a.body) (k.bodies r) ≡ held_body sha256 reading then r
      bodies_are apart r true same =
          let at : r ≡ row = eqb-true r row same in
          new_body sha256 reading e k a is.books apart r (ap k.bodies at ∙ none) (put_holds r (sym at))
      bodies_are apart r false other = old_body sha256 reading e
          k a is.books apart r (λ holds. absurd (true≢false (sym (here r (found_row r holds)) ∙ other)))

      comes : (r : ℕ) (body : List ℕ) (b : Bool) → (r == row) ≡ b
          → cond b (Some a.body) (k.bodies r) ≡ Some body → OldOrHolds sha256 reading e k a r body
      comes r body true same put = inr (put_holds r (sym (eqb-true r row same)), same_Some _ _ put)
      comes r body false other put = inl put

      still_some : (r : ℕ) (b : Bool) → IsSome (k.bodies r) → IsSome (cond b (Some a.body) (k.bodies r))
      still_some r true some = refl
      still_some r false some = some

      stays : (r : ℕ) → IsSome (k.bodies r) ⊎ (held_row found ≡ Some r)
          → IsSome (body_put k.bodies row a.body r)
      stays r (inl some) = still_some r (r == row) some
      stays r (inr held) = ap (λ b. is_some (cond b (Some a.body) (k.bodies r))) (here r held)
