-- A run goes on by one event.
use Rattle.std.proofs.Common.{◌≡◌, ℕ, ◌+◌, ◌^◌, ◌<◌, List, [], ◌∷◌, ◌++◌, Bool, true}
use Rattle.std.proofs.Common.{false, cond, Option, Some, None, Ok, Err, sym, ap, ap₂, subst, subst₂}
use Rattle.std.proofs.Common.{◌∙◌, append_assoc, append-nil, arith}
use Rattle.std.specs.List.{list_any}
use Rattle.std.proofs.lemmas.List.Sums.{sum_by-append}
use Rattle.sha2.specs.Sha256.{sha256}
use Rattle.sqlite_trees.specs.declared.store.Store.{Ghosts}
use Rattle.esc_tables.specs.Reading.{reading}
use Rattle.esc_manifest.specs.declared.row.MRow.{MRow}
use Rattle.esc_apply.specs.declared.moves.Work.{Work}
use Rattle.esc_apply.specs.Registry.{saturated}
use Rattle.esc_store.specs.ReplyValue.{ReplyValue, ReceiptValue, reply_alike}
use Rattle.esc_desk.specs.declared.desk.Desk.{Desk}
use Rattle.esc_desk.specs.declared.event.Event.{Event}
use Rattle.esc_desk.specs.declared.event.Event.TheVariants.{Arrival}
use Rattle.esc_desk.specs.declared.event.EventOutcome.{EventOutcome}
use Rattle.esc_desk.specs.declared.event.EventOutcome.TheVariants.{Arrived}
use Rattle.esc_desk.specs.declared.event.Outcome.TheVariants.{Done, Lost}
use Rattle.esc_events.specs.ArrivalValue.{ArrivalValue}
use Rattle.esc_events.specs.Events.{EventValue, Coming, union, coming, early_coming, comings}
use Rattle.esc_events.specs.Events.EventValue.{listed, arrived, moved, arrived_early}
use Rattle.esc_events.specs.Receipts.{alike, distinct, receipt_for, receipts_after, receipts_of, reply_to}
use Rattle.esc_events.specs.Works.{IsWorkOf}
use Rattle.esc_manifest.specs.declared.fault.ManifestFault.TheVariants.{Refused as RefusedRow, NoMemory}
use Rattle.esc_desk.specs.declared.amendment.AmendFault.{AmendFault}
use Rattle.esc_desk.specs.declared.amendment.AmendFault.TheVariants.{M, Store as OfStore}
use Rattle.esc_desk.specs.Amendments.{IsAmendCause, IsAmendFault}
use Rattle.esc_desk.specs.Asked.{Matched, event_of, is_taken, matched, taken_by, taken_in}
use Rattle.esc_desk.specs.Asked.Matched.{of_arrival, of_amendment, of_moment}
use Rattle.esc_desk.specs.Calls.{Answers, DeskLeaves, DeskLeavesEvent, DeskLeavesRun, ForDeskEvents}
use Rattle.esc_desk.specs.Calls.{ForEventsInDoubt, WasHonest, writes_of}
use Rattle.esc_desk.specs.Crashes.{IsApartIf, doubtful_by, doubtful_after}
use Rattle.esc_desk.specs.Laws.{KeepsReplies}
use Rattle.esc_desk.specs.Outcomes.{IsOutcomeOf, AreOutcomesOf, AreWorksOf, writes_in, HasWorked}
use Rattle.esc_desk.specs.Running.{IsRight, AreRight, Ran, Takes}
use Rattle.esc_desk.specs.Reflection.{DeskReflects}
use Rattle.esc_desk.proofs.AmendedBooks.{replies_stay}
use Rattle.esc_desk.proofs.CrashLemmas.{if_clean}
use Rattle.esc_desk.proofs.EventLemmas.{union_on, comings_on, union-arrived, comings-arrived}
use Rattle.esc_desk.proofs.EventLemmas.{union-moved, comings-moved}
use Rattle.esc_desk.proofs.Moving.{apart_before}
use Rattle.esc_desk.proofs.Searches.{alike-front}
use Rattle.esc_desk.proofs.Distinct.{distinct-push, receipts-push}

-- ---- a reply stays as it was

-- where f are the events e and one more arrival
module _ (e f : List EventValue) (came : Coming) (last : comings f ≡ comings e ++ came ∷ []) where
  receipts_grow : (more : List ReceiptValue) × (receipts_of sha256 reading f ≡ receipts_of sha256 reading e ++ more)
  receipts_grow =
      let firsts = ap (distinct sha256 reading) last ∙ distinct-push sha256 reading (comings e) came in
      by_test (list_any (alike sha256 reading came) (comings e)) (ap (receipts_after sha256 reading []) firsts)
    where
      before : List Coming
      before = distinct sha256 reading (comings e)

      by_test : (b : Bool) → receipts_of sha256 reading f
          ≡ receipts_after sha256 reading [] (cond b before (before ++ came ∷ []))
          → (more : List ReceiptValue) × (receipts_of sha256 reading f ≡ receipts_of sha256 reading e ++ more)
      by_test true is = ([], is ∙ sym (append-nil _))
      by_test false is = (
        receipt_for sha256 reading before came ∷ [],
        is ∙ receipts-push sha256 reading [] before came,
      )

  reply_grows : union f ≡ union e → KeepsReplies e f
  reply_grows rows a r is =
      let grown = receipts_grow in
      ap₂ (λ (m : List MRow) (rs : List ReceiptValue). reply_alike m 1 a.number (sha256 a.body) rs) rows grown.1
      ∙ alike-front (union e) a.number (sha256 a.body) 1 (receipts_of sha256 reading e) grown.0 r is

-- a reply stays after one more event
pub reply_stays : (e : List EventValue) (x : EventValue) → KeepsReplies e (e ++ x ∷ [])
reply_stays e (listed more) a r is = replies_stay e more a ∙ is
reply_stays e (arrived b) a r is = reply_grows e (e ++ arrived b ∷ [])
    (coming (union e) b) (comings-arrived e b) (union-arrived e b) a r is
reply_stays e (arrived_early b) a r is =
    reply_grows e (e ++ arrived_early b ∷ []) (early_coming (union e) b)
    (comings_on [] e (arrived_early b ∷ [])) (union_on [] e (arrived_early b ∷ [])) a r is
reply_stays e (moved t) a r is =
    let reply : List MRow → List Coming → Option ReplyValue =
    λ m cs. reply_alike m 1 a.number (sha256 a.body) (receipts_after sha256 reading [] (distinct sha256 reading cs)) in
    ap₂ reply (union-moved e t) (comings-moved e t) ∙ is

-- a reply stays after any events
pub replies_kept : (e more : List EventValue) → KeepsReplies e (e ++ more)
replies_kept e [] a r is = ap (λ (k : List EventValue). reply_to sha256 reading k a) (append-nil e) ∙ is
replies_kept e (x ∷ more) a r is =
    ap (λ (k : List EventValue). reply_to sha256 reading k a) (sym (append_assoc e (x ∷ []) more))
    ∙ replies_kept (e ++ x ∷ []) more a r (reply_stays e x a r is)

-- ---- one more event of a run

-- outcomes stay right where replies stay
module _ (all more : List EventValue) (keep : KeepsReplies all more) where
  answer_kept : (e : List EventValue) (m : Option Matched) → IsRight e all m → IsRight e more m
  answer_kept e None is = is
  answer_kept e (Some (of_arrival a (Done r))) is = (keep a r is.0, is.1, is.2)
  answer_kept e (Some (of_arrival a (Lost f))) is = is
  answer_kept e (Some (of_amendment text (Ok n))) is = is
  answer_kept e (Some (of_amendment text (Err f))) is = is
  answer_kept e (Some (of_moment t r)) is = tt

  answers_kept : (e : List EventValue) (xs : List Event) (os : List EventOutcome)
      → AreRight e all xs os → AreRight e more xs os
  answers_kept e [] [] are = tt
  answers_kept e [] (o ∷ os) are = are
  answers_kept e (x ∷ xs) [] are = are
  answers_kept e (x ∷ xs) (o ∷ os) are =
      (answer_kept e (matched x o) are.0, answers_kept (e ++ taken_by x o) xs os are.1)

-- where one event x with its outcome o comes after others
module _ (x : Event) (o : EventOutcome) (all : List EventValue) where
  answers_more : (e : List EventValue) (xs : List Event) (os : List EventOutcome)
      → AreRight e all xs os → IsRight (e ++ taken_in xs os) all (matched x o)
      → AreRight e all (xs ++ x ∷ []) (os ++ o ∷ [])
  answers_more e [] [] are one = (subst (λ (k : List EventValue). IsRight k all (matched x o)) (append-nil e) one, tt)
  answers_more e [] (q ∷ os) are one = absurd are
  answers_more e (y ∷ xs) [] are one = absurd are
  answers_more e (y ∷ xs) (q ∷ os) are one =
      let last = subst (λ (k : List EventValue). IsRight k all (matched x o))
      (sym (append_assoc e (taken_by y q) (taken_in xs os))) one in
      (are.0, answers_more (e ++ taken_by y q) xs os are.1 last)

  taken_more : (e : List EventValue) (xs : List Event) (os : List EventOutcome)
      → AreRight e all xs os → taken_in (xs ++ x ∷ []) (os ++ o ∷ []) ≡ taken_in xs os ++ taken_by x o
  taken_more e [] [] are = append-nil (taken_by x o)
  taken_more e [] (q ∷ os) are = absurd are
  taken_more e (y ∷ xs) [] are = absurd are
  taken_more e (y ∷ xs) (q ∷ os) are =
      ap (λ (k : List EventValue). taken_by y q ++ k) (taken_more (e ++ taken_by y q) xs os are.1)
      ∙ sym (append_assoc (taken_by y q) (taken_in xs os) (taken_by x o))

  -- the events of a run and one more
  along : (e : List EventValue) (xs : List Event) (os : List EventOutcome)
      → AreRight e all xs os
      → e ++ taken_in (xs ++ x ∷ []) (os ++ o ∷ []) ≡ (e ++ taken_in xs os) ++ taken_by x o
  along e xs os are = ap (λ (k : List EventValue). e ++ k) (taken_more e xs os are)
      ∙ sym (append_assoc e (taken_in xs os) (taken_by x o))

  doubtful_more : (apart : Bool)
      (e doubtful : List EventValue) (xs : List Event) (os : List EventOutcome) → AreRight e all xs os
      → doubtful_after apart e doubtful (xs ++ x ∷ []) (os ++ o ∷ []) ≡ doubtful_by
      apart (e ++ taken_in xs os) (doubtful_after apart e doubtful xs os) (matched x o)
  doubtful_more apart e doubtful [] [] are =
      ap (λ (k : List EventValue). doubtful_by apart k doubtful (matched x o)) (sym (append-nil e))
  doubtful_more apart e doubtful [] (q ∷ os) are = absurd are
  doubtful_more apart e doubtful (y ∷ xs) [] are = absurd are
  doubtful_more apart e doubtful (y ∷ xs) (q ∷ os) are =
      let first = e ++ taken_by y q in
      let doubts = doubtful_by apart e doubtful (matched y q) in
      doubtful_more apart first doubts xs os are.1
      ∙ ap (λ (k : List EventValue). doubtful_by apart k (doubtful_after apart first doubts xs os)
      (matched x o)) (append_assoc e (taken_by y q) (taken_in xs os))

outcomes_more : (xs : List Event) (os : List EventOutcome) (x : Event) (o : EventOutcome)
    → AreOutcomesOf xs os → IsOutcomeOf (matched x o) → AreOutcomesOf (xs ++ x ∷ []) (os ++ o ∷ [])
outcomes_more [] [] x o are one = (one, tt)
outcomes_more [] (q ∷ os) x o are one = absurd are
outcomes_more (y ∷ xs) [] x o are one = absurd are
outcomes_more (y ∷ xs) (q ∷ os) x o are one = (are.0, outcomes_more xs os x o are.1 one)

-- ---- the work of a run

works_more : (e xs ys : List EventValue) (ws vs : List Work)
    → AreWorksOf e xs ws → AreWorksOf (e ++ xs) ys vs → AreWorksOf e (xs ++ ys) (ws ++ vs)
works_more e [] ys [] vs are more = subst (λ (k : List EventValue). AreWorksOf k ys vs) (append-nil e) more
works_more e [] ys (w ∷ ws) vs are more = absurd are
works_more e (x ∷ xs) ys [] vs are more = absurd are
works_more e (x ∷ xs) ys (w ∷ ws) vs are more =
    let then = subst (λ (k : List EventValue). AreWorksOf k ys vs) (sym (append_assoc e (x ∷ []) xs)) more in
    (are.0, works_more (e ++ x ∷ []) xs ys ws vs are.1 then)

-- before the first event
worked_none : (e : List EventValue) (was : ℕ) → was < 2 ^ 64 → HasWorked e [] was was
worked_none e was fits = record { works = []; are_works = tt; counted = omega arith }

-- of one that was not taken in
pub worked_lost : (e : List EventValue) (was now : ℕ) → was < 2 ^ 64 → now ≡ was → HasWorked e [] was now
worked_lost e was now fits same = record { works = []; are_works = tt; counted = omega (arith, fits, same) }

-- of one that was
pub worked_once : (e : List EventValue) (x : EventValue) (w : Work) (was now : ℕ)
    → IsWorkOf e x w → now ≡ saturated (was + w.writes)
    → HasWorked e (x ∷ []) was now
worked_once e x w was now is counted =
    record { works = w ∷ []; are_works = (is, tt); counted = omega (arith, counted) }

worked_more : (e all : List EventValue)
    (xs : List Event) (os : List EventOutcome) (x : Event) (o : EventOutcome) (was mid now : ℕ)
    → AreRight e all xs os → HasWorked e (taken_in xs os) was mid
    → HasWorked (e ++ taken_in xs os) (taken_by x o) mid now
    → HasWorked e (taken_in (xs ++ x ∷ []) (os ++ o ∷ [])) was now
worked_more e all xs os x o was mid now are so once =
    let sum : writes_in (so.works ++ once.works) ≡ writes_in so.works + writes_in once.works =
    sum_by-append (λ (w : Work). w.writes) so.works once.works in
    subst (λ (k : List EventValue). HasWorked e k was now) (sym (taken_more x o all e xs os are)) (record {
      works = so.works ++ once.works;
      are_works = works_more e (taken_in xs os) (taken_by x o) so.works once.works so.are_works once.are_works;
      counted = omega (arith, so.counted, once.counted, sum);
    })

-- ---- what a desk reflects

-- what is known of a run is known of the events before its last one
apart_front : (apart b : Bool) (e : List EventValue) (x : EventValue)
    → IsApartIf apart (e ++ cond b (x ∷ []) []) → IsApartIf apart e
apart_front false b e x cache = tt
apart_front true true e x cache = apart_before e x cache
apart_front true false e x cache = subst (IsApartIf true) (append-nil e) cache

module _ {S : Type 0} (g : Ghosts S) where
  -- an event that was not taken in
  pub serves_without : (desk : Desk S) (e : List EventValue) → DeskReflects g desk e → DeskReflects g desk (e ++ [])
  serves_without desk e serves = subst (λ (k : List EventValue). DeskReflects g desk k) (sym (append-nil e)) serves

  pub leaves_without : (desk : Desk S) (e doubtful : List EventValue)
      → DeskLeaves g desk e doubtful → DeskLeaves g desk (e ++ []) doubtful
  leaves_without desk e doubtful left =
      subst (λ (k : List EventValue). DeskLeaves g desk k doubtful) (sym (append-nil e)) left

  -- an answer to an arrival is one to the same arrival
  pub answers_same : (old new : Desk S)
      (e : List EventValue) (a b : ArrivalValue) (r : ReplyValue) (w : Work) → a ≡ b
      → Answers g new e a r w → writes_of new ≡ saturated (writes_of old + w.writes)
      → Takes g old new e (Arrival b) (Arrived (Done r))
  answers_same old new e a b r w same told counted =
      let takes : Takes g old new e (Arrival a) (Arrived (Done r)) =
      record {
        serves = told.serves;
        answer = (told.told, told.room, told.place);
        worked = worked_once e (arrived a) w _ _ told.works counted;
      } in
      subst (λ (x : ArrivalValue). Takes g old new e (Arrival x) (Arrived (Done r))) same takes

  ran_more : (start old new : Desk S) (before : List EventValue)
      (xs : List Event) (os : List EventOutcome) (x : Event) (o : EventOutcome)
      → Ran g start old before xs os → ((e : List EventValue) → DeskReflects g old e
      → Takes g old new e x o) → Ran g start new before (xs ++ x ∷ []) (os ++ o ∷ [])
  ran_more start old new before xs os x o ran step =
      let e = before ++ taken_in xs os in
      let more = e ++ taken_by x o in
      let now = step e ran.serves in
      let all : before ++ taken_in (xs ++ x ∷ []) (os ++ o ∷ []) ≡ more = along x o e before xs os ran.answers in
      let kept = answers_kept e more (replies_kept e (taken_by x o)) before xs os ran.answers in
      record {
        serves = subst (λ (k : List EventValue). DeskReflects g new k) (sym all) now.serves;
        answers = subst (λ (k : List EventValue). AreRight before k (xs ++ x ∷ []) (os ++ o ∷ [])) (sym all)
            (answers_more x o more before xs os kept now.answer);
        worked = worked_more before e xs os x o _ _ _ ran.answers ran.worked now.worked;
      }

  left_more : (old new : Desk S) (before doubtful all : List EventValue)
      (xs : List Event) (os : List EventOutcome) (x : Event) (o : EventOutcome)
      → AreRight before all xs os → DeskLeavesRun g old before doubtful xs os
      → ((d : List EventValue) → DeskLeaves g old (before ++ taken_in xs os) d
      → DeskLeavesEvent g new (before ++ taken_in xs os) d x o)
      → DeskLeavesRun g new before doubtful (xs ++ x ∷ []) (os ++ o ∷ [])
  left_more old new before doubtful all xs os x o are left step apart cache =
      let events = along x o all before xs os are in
      let doubts = doubtful_more x o all apart before doubtful xs os are in
      let first = apart_front apart (is_taken o)
      (before ++ taken_in xs os) (event_of x) (subst (IsApartIf apart) events cache) in
      subst₂ (λ (k d : List EventValue). DeskLeaves g new k d) (sym events) (sym doubts)
      (step (doubtful_after apart before doubtful xs os) (left apart first) apart first)

  -- these events were taken so far, with these outcomes, in a run from the desk `start`
  pub record Runs (start now : Desk S) (xs : List Event) (os : List EventOutcome) : Type 0 where
    pub honest : WasHonest g start now
    pub ran : ForDeskEvents g start now (λ before. Ran g start now before xs os)
    pub cause : AreOutcomesOf xs os
    pub crash : ForEventsInDoubt g start (λ before doubtful. DeskLeavesRun g now before doubtful xs os)

  pub runs_none : (desk : Desk S) → writes_of desk < 2 ^ 64 → Runs desk desk [] []
  runs_none desk fits = record {
    honest = λ clean. clean;
    ran = λ clean before served. record {
      serves = serves_without desk before served;
      answers = tt;
      worked = worked_none before (writes_of desk) fits;
    };
    cause = tt;
    crash = λ before doubtful served start. λ apart cache. leaves_without desk before doubtful start;
  }

  pub runs_more : (start old new : Desk S)
      (xs : List Event) (os : List EventOutcome) (x : Event) (o : EventOutcome) → Runs start old xs os
      → WasHonest g old new → ForDeskEvents g old new (λ e. Takes g old new e x o) → IsOutcomeOf (matched x o)
      → ForEventsInDoubt g old (λ e doubtful. DeskLeavesEvent g new e doubtful x o)
      → Runs start new (xs ++ x ∷ []) (os ++ o ∷ [])
  runs_more start old new xs os x o runs honest taken cause crash = record {
    honest = λ clean. runs.honest (honest clean);
    ran = λ clean before served. ran_more
        start old new before xs os x o (runs.ran (honest clean) before served) (taken clean);
    cause = outcomes_more xs os x o runs.cause cause;
    crash = λ before doubtful served start. λ apart cache. if_clean g new.store.conn _ _ (λ clean.
        let past = runs.ran (honest clean) before served in
        left_more old new before doubtful _ xs os x o past.answers
        (runs.crash before doubtful served start) (λ d. crash _ d past.serves) apart cache);
  }

-- why an amendment isn't taken in is of the kind of its outcome
pub amend_kind : (m : List MRow) (text : List ℕ) (f : AmendFault) → IsAmendCause m text f → IsAmendFault f
amend_kind m text (M (RefusedRow code row)) is = is.0
amend_kind m text (M NoMemory) is = is
amend_kind m text (OfStore f) is = is
