-- What an arrival is answered, why it is lost, and what a crash leaves of it.
use Rattle.std.proofs.Common.{◌≡◌, ◌+◌, ◌<◌, ◌≤◌, inl, inr, ℕ, Bool, true, false, cond}
use Rattle.std.proofs.Common.{◌&&◌, List, [], ◌∷◌, ◌++◌, length, Option, Some, None, IfSome, IsSome}
use Rattle.std.proofs.Common.{is_some, refl, sym, ap, ap₂, subst, ◌∙◌, true≢false, arith}
use Rattle.std.proofs.lemmas.Bool.{and_right}
use Rattle.std.proofs.lemmas.Option.{same_Some, none-some}
use Rattle.sha2.specs.Sha256.{sha256}
use Rattle.sqlite_trees.specs.declared.store.Store.{Ghosts}
use Rattle.sqlite.specs.Held.{state}
use Rattle.sqlite.specs.State.{HasCleanDisk}
use Rattle.esc_tables.specs.Reading.{reading}
use Rattle.esc_manifest.specs.declared.row.MRow.{MRow}
use Rattle.esc_apply.specs.declared.moves.Work.{Work}
use Rattle.esc_store.specs.declared.books.TheConstants.{MOST_RECEIPTS}
use Rattle.esc_store.specs.declared.fault.StoreFault.{StoreFault}
use Rattle.esc_store.specs.declared.reply.Verdict.{Verdict}
use Rattle.esc_store.specs.declared.reply.Verdict.TheVariants.{A1, A2, A3, A4, A5}
use Rattle.esc_store.specs.declared.store.Store.{Store}
use Rattle.esc_store.specs.StoreState.{StoreState}
use Rattle.esc_store.specs.ReplyValue.{ReceiptValue, ReplyValue, reply_alike, reply_kept}
use Rattle.esc_store.specs.Representation.{IsAsBefore, IsHonest, Represents, StoreLeavesNoMore}
use Rattle.esc_events.specs.declared.assessment.Assessment.{Assessment}
use Rattle.esc_events.specs.declared.assessment.Assessment.TheVariants.{Unlisted}
use Rattle.esc_events.specs.declared.cache.Cache.{Cache}
use Rattle.esc_events.specs.declared.parking.Parking.TheVariants.{Crowded}
use Rattle.esc_events.specs.Apart.{WhereApart}
use Rattle.esc_events.specs.ArrivalValue.{ArrivalValue}
use Rattle.esc_events.specs.Assessment.{assessment, found_at, row_with_digest}
use Rattle.esc_events.specs.Events.{EventValue, union}
use Rattle.esc_events.specs.Events.EventValue.{arrived}
use Rattle.esc_events.specs.Cache.{IsCacheOf}
use Rattle.esc_events.specs.Parks.{IsParking}
use Rattle.esc_events.specs.Receipts.{receipts_of, reply_to}
use Rattle.esc_events.specs.StateAfter.{AreBooks, IsStateAfter}
use Rattle.esc_events.specs.Taking.{IsAgain}
use Rattle.esc_desk.specs.declared.answering.Answer.{Answer}
use Rattle.esc_desk.specs.declared.decision.Decision.{Decision}
use Rattle.esc_desk.specs.declared.desk.Desk.{Desk}
use Rattle.esc_desk.specs.declared.edit.Storing.TheVariants.{Nothing}
use Rattle.esc_desk.specs.declared.receiving.Received.{Received}
use Rattle.esc_desk.specs.Again.{IsUnkept, changes_table, is_missing, is_missing_after, is_unkept}
use Rattle.esc_desk.specs.Answering.{IsAnswer, IsAsked, numbered}
use Rattle.esc_desk.specs.Reflection.{DeskReflects}
use Rattle.esc_desk.specs.Calls.{HadPlace, HadRoom, HasNoPlace, IsCause}
use Rattle.esc_desk.specs.Crashes.{CrashLeaves, IsApartIf, LeavesAnswered, still_doubtful}
use Rattle.esc_desk.specs.Decisions.{IsDecidedArrival, IsDone, still_by}
use Rattle.esc_desk.specs.Causes.{IsPlaceFault}
use Rattle.esc_desk.specs.Edits.{is_empty}
use Rattle.esc_desk.specs.Receiving.{IsReceived}
use Rattle.esc_desk.proofs.Arriving.{new_receipt}
use Rattle.esc_desk.proofs.CauseLemmas.{cause_by, crowded_of, no_place_of}
use Rattle.esc_desk.proofs.ComingAgain.{missing_of, nothing_repeated, told_again}
use Rattle.esc_desk.proofs.CrashLemmas.{if_clean, leaves_as, leaves_nothing, leaves_only}
use Rattle.esc_desk.proofs.Deciding.{decided_still, is_none_of}
use Rattle.esc_desk.proofs.DecidingArrivals.{nothing_again}
use Rattle.esc_desk.proofs.EventLemmas.{union-arrived}
use Rattle.esc_desk.proofs.HeldRows.{unlisted_row}
use Rattle.esc_desk.proofs.Likeness.{AddsNothing, still_stands}
use Rattle.esc_desk.proofs.OneArrival.{new_reply}
use Rattle.esc_desk.proofs.RunLemmas.{reply_stays}

-- what a store was asked
pub asked_of : {S : Type 0} (g : Ghosts S) (desk : Desk S) (mid : Store S) (n digest : List ℕ)
    (kept : Option ReplyValue) (e : List EventValue) (served : DeskReflects g desk e)
    → IsAsBefore g desk.store mid
    → kept ≡ reply_alike served.serves.kept.listed 1 n digest served.serves.kept.receipts
    → IsAsked g mid desk.cache n digest kept e served.serves.kept
asked_of g desk mid n digest kept e served same found =
    let k = served.serves.kept in
    record {
      stood = same.stands k served.serves.stands;
      stands_for = served.serves.stands_for;
      cache_is = served.remembers;
      kept_is = sym (found ∙ ap (λ (m : List MRow). reply_alike m 1 n digest k.receipts)
          served.serves.stands_for.books.listed);
    }

-- ---- what is answered

-- there was a place, if there is one where no row lists the body
had_place : (e : List EventValue) (a : ArrivalValue) (k : StoreState) (found : Assessment)
    → AreBooks sha256 reading e k → found ≡ assessment sha256 reading (union e) a.body
    → (found ≡ Unlisted → IsParking k.parked (sha256 a.body) Crowded → ⊥) → HadPlace e a
had_place e a k found books is place apart full =
    let (unlisted, parking) = crowded_of e a k books apart full in
    place (is ∙ ap (λ (o : Option ℕ). found_at (union e) o (reading a.body)) full.crowded.0) parking

-- a new arrival
pub new_answer : {e : List EventValue} {a : ArrivalValue} {k : StoreState}
    {before : Cache} {r : Received} {d : Decision} {m : List MRow} → IsReceived e a k before r
    → IsDecidedArrival e a k r.found d
    → d.edit.receipt ≡ Some r.receipt → r.reply ≡ reply_kept m 0 r.receipt → m ≡ union e
    → (r.found ≡ Unlisted → IsParking k.parked (sha256 a.body) Crowded → ⊥)
    → IsAnswer e a k (record { reply = r.reply; decision = d })
new_answer {e = e} {a = a} {k = k} {before = before} {r = r} {d = d} got done receipt reply listed place =
    let is = got.is_new in
    let none : reply_to sha256 reading e a ≡ None =
    ap (reply_alike (union e) 1 a.number (sha256 a.body)) (sym is.stood.books.receipts) ∙ is.none in
    record {
      decided = done.decided;
      idle = done.idle;
      told = λ n counted.
          let last = subst (λ (o : Option ReceiptValue). IfSome
          o (λ (x : ReceiptValue). n ≡ length k.receipts + 1)) receipt counted in
          let count : 1 + length k.receipts ≡ n = omega (arith, last) in
          let same = ap (λ (v : ReplyValue). record v { receipt = n })
          (reply ∙ ap (λ (x : List MRow). reply_kept x 0 r.receipt) listed) in
          let kept = ap₂ (reply_kept (union e)) (sym count) (new_receipt e a k r.found before r.receipt is) in
          new_reply sha256 reading e k a is.stood.books is.none ∙ ap Some (sym (same ∙ kept))
          ∙ ap (λ (o : Option ReceiptValue). Some (numbered (is_some o) n r.reply)) (sym receipt);
      is_new = λ new. ap is_some receipt;
      again = λ x told. absurd (none-some _ (sym none ∙ told));
      there = λ empty unkept. ap (is_missing k.bodies k.parked (sha256 a.body)) (sym is.found_is) ∙ done.there empty;
      place = had_place e a k r.found is.stood.books is.found_is place;
    }

-- one that comes again with its reply A2
pub again_answer : {e : List EventValue} {a : ArrivalValue} {k : StoreState}
    {found : Assessment} {reply : ReplyValue} {d : Decision} → IsAgain e a k found reply
    → IsDecidedArrival e a k found d → d.edit.receipt ≡ None
    → (found ≡ Unlisted → IsParking k.parked (sha256 a.body) Crowded → ⊥)
    → IsAnswer e a k (record { reply = reply; decision = d })
again_answer {e = e} {a = a} {k = k} {found = found} {reply = reply} {d = d} is done receipt place =
    let at = told_again e a k found reply is in
    record {
      decided = done.decided;
      idle = done.idle;
      told = λ n counted. reply_stays e (arrived a) a reply at
          ∙ ap (λ (o : Option ReceiptValue). Some (numbered (is_some o) n reply)) (sym receipt);
      is_new = λ none. absurd (none-some _ (sym none ∙ at));
      again = λ r told.
          let same = same_Some _ _ (sym at ∙ told) in
          record {
            same = same;
            no_receipt = receipt;
            rests = λ other. absurd
                (other (ap (λ (x : ReplyValue). x.verdict) (sym same) ∙ is.verdict));
          };
      there = λ empty unkept. ap (is_missing k.bodies k.parked (sha256 a.body)) (sym is.found_is) ∙ done.there empty;
      place = had_place e a k found is.stood.books is.found_is place;
    }

-- one that comes again with another reply
pub other_answer : (e : List EventValue) (a : ArrivalValue) (k : StoreState) (reply : ReplyValue)
    (cache : Option Cache) → IsStateAfter sha256 reading e k → IfSome cache (IsCacheOf k)
    → reply_alike (union e) 1 a.number (sha256 a.body) k.receipts ≡ Some reply → (reply.verdict ≡ A2 → ⊥)
    → IsAnswer e a k (record { reply = reply; decision = still_by None cache Nothing })
other_answer e a k reply cache stands knows there other =
    let none = nothing_repeated e a k stands.books reply there other in
    let at : reply_to sha256 reading e a ≡ Some reply =
    ap (reply_alike (union e) 1 a.number (sha256 a.body)) (sym stands.books.receipts) ∙ there in
    record {
      decided = decided_still None None Nothing None cache stands (still_stands e a k none stands)
          (union-arrived e a) knows;
      idle = λ work cost. λ apart same. cost;
      told = λ n counted. reply_stays e (arrived a) a reply at;
      is_new = λ new. absurd (none-some _ (sym new ∙ at));
      again = λ r told. record { same = same_Some _ _ (sym at ∙ told); no_receipt = refl; rests = λ other. refl };
      there = λ empty unkept. absurd (other (unkept reply at));
      place = λ apart full. other (full.unkept reply at);
    }

-- a new arrival has a receipt, for which there was room
pub had_room : {e : List EventValue} {a : ArrivalValue} {k : StoreState} {p : Answer} (n : ℕ)
    → IsStateAfter sha256 reading e k → IsAnswer e a k p
    → IfSome p.decision.edit.receipt (λ r. (n ≡ length k.receipts + 1) × (n ≤ MOST_RECEIPTS)) → HadRoom e a
had_room {e = e} {a = a} {k = k} {p = p} n stood is counted none =
    by_receipt p.decision.edit.receipt (is.is_new none) counted
  where
    by_receipt : (r : Option ReceiptValue) → IsSome r → IfSome r (λ x. (n ≡ length k.receipts + 1)
        × (n ≤ MOST_RECEIPTS)) → length (receipts_of sha256 reading e) < MOST_RECEIPTS
    by_receipt None some h = absurd (true≢false (sym some))
    by_receipt (Some r) some h = subst (λ (rs : List ReceiptValue). length rs < MOST_RECEIPTS)
        stood.books.receipts (omega (arith, h.0, h.1))

-- ---- why one is lost

module _ {S : Type 0} (g : Ghosts S) (mid new : Store S) (found : Assessment) (digest : List ℕ) (f : StoreFault) where
  module _ (e : List EventValue) (a : ArrivalValue) (k : StoreState)
      (clean : IsHonest g new) (stood : Represents g mid k) (books : AreBooks sha256 reading e k)
      (same : digest ≡ sha256 a.body) (is : found ≡ assessment sha256 reading (union e) a.body) where
    no_place : IsUnkept e a → found ≡ Unlisted
        → IsParking k.parked digest Crowded → WhereApart e (HasNoPlace e a)
    no_place unkept unlisted full = no_place_of e a k books unkept (
      ap (λ (m : List MRow). row_with_digest m (sha256 a.body)) books.listed ∙ unlisted_row (union e)
          (row_with_digest (union e) (sha256 a.body)) (reading a.body) (sym is ∙ unlisted),
      subst (λ (d : List ℕ). IsParking k.parked d Crowded) same full,
    )

    pub cause_new : (r : ReceiptValue) → reply_to sha256 reading e a ≡ None
        → IsPlaceFault g (Some r) mid new found digest f → IsCause e a f
    cause_new r none (inl full) =
        let at = full.2 clean k stood in
        subst (IsCause e a) (sym full.0) (
          λ never. subst (λ (rs : List ReceiptValue). length rs < MOST_RECEIPTS) books.receipts at.1,
          no_place (λ x told. absurd (none-some _ (sym none ∙ told))) full.1 at.0,
        )
    cause_new r none (inr (inl is)) = cause_by e a f is
    cause_new r none (inr (inr full)) = subst (IsCause e a)
        (sym full.0) (
          none,
          subst (λ (rs : List ReceiptValue). MOST_RECEIPTS ≤ length rs)
              books.receipts (full.1.full clean k stood),
        )

    pub cause_again : (reply : ReplyValue) → reply_to sha256 reading e a ≡ Some reply
        → reply.verdict ≡ A2 → IsPlaceFault g None mid new found digest f → IsCause e a f
    cause_again reply at a2 (inl full) =
        let free = full.2 clean k stood in
        subst (IsCause e a) (sym full.0) (
          λ none. absurd (none-some _ (sym none ∙ at)),
          no_place (λ x told. ap
              (λ (y : ReplyValue). y.verdict) (same_Some _ _ (sym told ∙ at)) ∙ a2) full.1 free.0,
        )
    cause_again reply at a2 (inr is) = cause_by e a f is

-- ---- what a crash leaves

unkept_by : (e : List EventValue) (a : ArrivalValue) (r : ReplyValue)
    → reply_to sha256 reading e a ≡ Some r → r.verdict ≡ A2 → IsUnkept e a
unkept_by e a r told a2 x other = ap (λ (y : ReplyValue). y.verdict) (same_Some _ _ (sym other ∙ told)) ∙ a2

-- one that comes again, and for which nothing is done, adds nothing
adds_nothing : {e : List EventValue} {a : ArrivalValue} {k : StoreState} {p : Answer} (r : ReplyValue)
    → IsStateAfter sha256 reading e k → IsAnswer e a k p → is_empty p.decision.edit ≡ true
    → reply_to sha256 reading e a ≡ Some r → AddsNothing e a
adds_nothing {e = e} {a = a} {k = k} {p = p} r stood is empty told = by_verdict r.verdict refl
  where
    at : reply_alike (union e) 1 a.number (sha256 a.body) k.receipts ≡ Some r
    at = ap (reply_alike (union e) 1 a.number (sha256 a.body)) stood.books.receipts ∙ told

    by_verdict : (v : Verdict) → r.verdict ≡ v → AddsNothing e a
    by_verdict A2 a2 = nothing_again (assessment sha256 reading (union e) a.body)
        (record { stood = stood; kept = at; verdict = a2; found_is = refl })
        (is.there empty (unkept_by e a r told a2))
    by_verdict A1 other = nothing_repeated e a k stood.books r at (λ a2. let never : ⊥ = cc in never)
    by_verdict (A3 n) other = nothing_repeated e a k stood.books r at (λ a2. let never : ⊥ = cc in never)
    by_verdict A4 other = nothing_repeated e a k stood.books r at (λ a2. let never : ⊥ = cc in never)
    by_verdict A5 other = nothing_repeated e a k stood.books r at (λ a2. let never : ⊥ = cc in never)

module _ {S : Type 0} (g : Ghosts S) (first old : Store S) (new : Desk S)
    (e doubtful : List EventValue) (a : ArrivalValue) (k : StoreState) (p : Answer) (done : ℕ × Work)
    (stood : IsStateAfter sha256 reading e k)
    (left : CrashLeaves g first.conn e doubtful) (leaves : StoreLeavesNoMore g first old) where
  abbrev IsAnswered : Type 0
  IsAnswered = IsAnswer e a k p × IsDone g old new e (arrived a) k p.decision done

  -- nothing was done: nothing was missing
  idle : (r : ReplyValue) → IsAnswered → is_empty p.decision.edit ≡ true
      → reply_to sha256 reading e a ≡ Some r → (apart : Bool) → IsApartIf apart e
      → (is_unkept r.verdict && (apart && is_missing_after e a)) ≡ false
  idle r is empty told false cache = and_right (is_unkept r.verdict) false refl
  idle r is empty told true cache = by_verdict r.verdict refl
    where
      by_verdict : (v : Verdict) → r.verdict ≡ v → (is_unkept v && is_missing_after e a) ≡ false
      by_verdict A2 a2 = sym (missing_of e a k stood.books cache) ∙ is.0.there empty (unkept_by e a r told a2)
      by_verdict A1 other = refl
      by_verdict (A3 n) other = refl
      by_verdict A4 other = refl
      by_verdict A5 other = refl

  answered : IsAnswered → LeavesAnswered g new.store.conn e doubtful a
  answered is apart cache = by_empty (is_empty p.decision.edit) refl
    where
      by_reply : is_empty p.decision.edit ≡ true → (o : Option ReplyValue) → reply_to sha256 reading e a ≡ o
          → CrashLeaves g new.store.conn (e ++ arrived a ∷ [])
          (cond (changes_table o (apart && is_missing_after e a)) [] doubtful)
      by_reply empty None told = absurd
          (true≢false (sym (is.0.is_new told) ∙ ap is_some (is_none_of p.decision.edit empty).receipt))
      by_reply empty (Some r) told =
          subst (λ (b : Bool). CrashLeaves g new.store.conn (e ++ arrived a ∷ []) (cond b [] doubtful))
          (sym (idle r is empty told apart cache))
          (leaves_nothing g old.conn new.store.conn e doubtful (leaves_as g first.conn old.conn
          e doubtful left leaves) (adds_nothing r stood is.0 empty told) (is.1.rests empty).1)

      by_empty : (b : Bool) → is_empty p.decision.edit ≡ b
          → CrashLeaves g new.store.conn (e ++ arrived a ∷ []) (still_doubtful apart e doubtful a)
      by_empty true empty = by_reply empty (reply_to sha256 reading e a) refl
      by_empty false some = leaves_only g new.store.conn (e ++ arrived a ∷ [])
          (still_doubtful apart e doubtful a) (is.1.left some)

  pub leaves_answered : (HasCleanDisk (state g new.store.conn) → IsAnswered)
      → LeavesAnswered g new.store.conn e doubtful a
  leaves_answered made apart cache =
      if_clean g new.store.conn (e ++ arrived a ∷ []) _ (λ clean. answered (made clean) apart cache)
