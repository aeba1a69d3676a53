-- An arrival that is like an earlier one, and whose body is there or needn't be, changes nothing,
-- whatever one event comes after it.
use Rattle.std.proofs.Common.{◌≡◌, ◌⊎◌, inl, inr, ℕ, ℤ, ◌+◌, Bool, true, false, cond, ◌||◌}
use Rattle.std.proofs.Common.{List, [], ◌∷◌, ◌++◌, Option, Some, None, is_some, refl, sym, ap, ap₂}
use Rattle.std.proofs.Common.{subst, ◌∙◌, append-nil}
use Rattle.std.specs.List.{list_any, find, Any}
use Rattle.std.specs.Option.{option_or}
use Rattle.std.specs.Cmp.Lexicographic.{bytes_decides}
use Rattle.std.proofs.lemmas.List.Folds.{find-append, list_any-append}
use Rattle.std.proofs.lemmas.Map.Steps.{list_any_congr}
use Rattle.std.proofs.lemmas.Option.{none-some}
use Rattle.std.proofs.lemmas.Bool.{or_right}
use Rattle.sha2.specs.Sha256.{sha256}
use Rattle.esc_tables.specs.Reading.{reading}
use Rattle.esc_manifest.specs.declared.row.MRow.{MRow}
use Rattle.esc_manifest.specs.Extension.{new_rows}
use Rattle.esc_store.specs.StoreState.{StoreState}
use Rattle.esc_store.specs.ReplyValue.{ReplyValue}
use Rattle.esc_events.specs.ArrivalValue.{ArrivalValue}
use Rattle.esc_events.specs.Events.{EventValue, Coming, union_after, union, coming, early_coming}
use Rattle.esc_events.specs.Events.{comings_after, comings, moment_after, last_moment}
use Rattle.esc_events.specs.Events.EventValue.{listed, arrived, moved, arrived_early}
use Rattle.esc_events.specs.Assessment.{assessment, row_with_digest}
use Rattle.esc_events.specs.Receipts.{alike, distinct, holds_row, receipts_of, receipts_after, reply_to}
use Rattle.esc_events.specs.StateAfter.{Among, IsApart, AreBooks, IsStateAfter, TellsOf, arrived_body}
use Rattle.esc_events.specs.StateAfter.{holds_by, has_digest, kept_arrivals, held_body, parked_body}
use Rattle.esc_desk.proofs.AmendingLemmas.{row_found, listed_still, holds_still}
use Rattle.esc_desk.proofs.EventLemmas.{union_on, comings_on, moment_on, union-arrived, comings-arrived, moment-arrived}
use Rattle.esc_desk.proofs.Distinct.{alike_laws, distinct-push}
use Rattle.esc_desk.proofs.Members.{any_of, one_of, among-front, among-last}
use Rattle.esc_desk.proofs.Moving.{stands_still}
use Rattle.esc_desk.proofs.OneArrival.{any_kept, came_by, with_by}
use Rattle.esc_desk.proofs.Searches.{some_alike, find-push-old}
use Rattle.esc_desk.proofs.Counting.{counting, counting-append}

or_false : (b : Bool) → (b || false) ≡ b
or_false true = refl
or_false false = refl

abbrev like : Coming → Coming → Bool
like a b = alike sha256 reading a b

abbrev first_ones : List Coming → List Coming
first_ones l = distinct sha256 reading l

abbrev holding : List MRow → ℕ → Coming → Bool
holding m r c = holds_by sha256 reading m r c

abbrev under : List ℕ → Coming → Bool
under d c = has_digest sha256 reading d c

among_through : (l tail : List Coming) (c x : Coming) → Among (l ++ tail) x → Among ((l ++ c ∷ []) ++ tail) x
among_through [] tail c x there = inr there
among_through (b ∷ l) tail c x (inl is) = inl is
among_through (b ∷ l) tail c x (inr there) = inr (among_through l tail c x there)

-- ---- an arrival that adds nothing

-- a body with its digest is among those that count; or a row lists it, and each row that it holds is held
abbrev pub IsThere : List MRow → List Coming → Coming → Type 0
IsThere m l c = (list_any (under (sha256 c.body)) l ≡ true)
    ⊎ ((q : ℕ) × (row_with_digest m (sha256 c.body) ≡ Some q)
    × ((r : ℕ) → holding m r c ≡ true → list_any (holding m r) l ≡ true))

-- and it is like an earlier one
pub record AddsNothing (e : List EventValue) (a : ArrivalValue) : Type 0 where
  pub alike : list_any (like (coming (union e) a)) (comings e) ≡ true
  pub there : IsThere (union e) (kept_arrivals sha256 reading e) (coming (union e) a)

-- ---- one of the arrivals is like an earlier one

module _ (l : List Coming) (c : Coming) (was : list_any (like c) l ≡ true) where
  one_more_seen : first_ones (l ++ c ∷ []) ≡ first_ones l
  one_more_seen = distinct-push sha256 reading l c ∙ ap (λ b. cond b (first_ones l) (first_ones l ++ c ∷ [])) was

  any_with : (x : Coming) → list_any (like x) (l ++ c ∷ []) ≡ list_any (like x) l
  any_with x = list_any-append (like x) l (c ∷ []) ∙ by_test (like x c) refl
    where
      by_test : (b : Bool) → like x c ≡ b → (list_any (like x) l || (b || false)) ≡ list_any (like x) l
      by_test true same = or_right _ true refl ∙ sym (list_any_congr (alike_laws sha256 reading) x c l same ∙ was)
      by_test false other = or_false _

  -- with another after it
  two_more_seen : (x : Coming) → first_ones ((l ++ c ∷ []) ++ x ∷ []) ≡ first_ones (l ++ x ∷ [])
  two_more_seen x =
      distinct-push sha256 reading (l ++ c ∷ []) x
      ∙ ap₂ (λ (b : Bool) (d : List Coming). cond b d (d ++ x ∷ [])) (any_with x) one_more_seen
      ∙ sym (distinct-push sha256 reading l x)

-- ---- events f with this arrival stand for what the events e without it do

-- where m were listed before it and then more, and l counted before it and then a tail
record IsOneMore (m more : List MRow) (l tail : List Coming) (c : Coming) (e f : List EventValue) : Type 0 where
  counted_with : kept_arrivals sha256 reading f ≡ (l ++ c ∷ []) ++ tail
  counted_without : kept_arrivals sha256 reading e ≡ l ++ tail
  listed_are : union e ≡ m ++ more
  rows : union f ≡ union e
  moment : last_moment f ≡ last_moment e
  firsts : first_ones (comings f) ≡ first_ones (comings e)

module _ {m more : List MRow} {l tail : List Coming} {c : Coming}
    {e f : List EventValue} (there : IsThere m l c) (one : IsOneMore m more l tail c e f) where
  within : (x : Coming) → Among ((l ++ c ∷ []) ++ tail) x → Among (kept_arrivals sha256 reading f) x
  within x there = subst (λ (xs : List Coming). Among xs x) (sym one.counted_with) there

  stays : (x : Coming) → Among (kept_arrivals sha256 reading e) x → Among (kept_arrivals sha256 reading f) x
  stays x there = within
      x (among_through l tail c x (subst (λ (xs : List Coming). Among xs x) one.counted_without there))

  apart_without : IsApart sha256 reading f → IsApart sha256 reading e
  apart_without apart a b first second same = apart a b (stays a first) (stays b second) same

  -- a row that it holds is held by an earlier one
  held_before : IsApart sha256 reading f
      → (r : ℕ) → holding (m ++ more) r c ≡ true → list_any (holding (m ++ more) r) l ≡ true
  held_before apart r holds = by_case there
    where
      by_case : IsThere m l c → list_any (holding (m ++ more) r) l ≡ true
      by_case (inl any) =
          let x = one_of (under (sha256 c.body)) l any in
          let same = (bytes_decides (sha256 x.0.body) (sha256 c.body)).0 x.2 in
          let x_counts = within x.0 (among-front (l ++ c ∷ []) tail x.0 (among-front l (c ∷ []) x.0 x.1)) in
          let c_counts = within c (among-front (l ++ c ∷ []) tail c (among-last l c)) in
          let body = apart x.0 c x_counts c_counts same in
          any_of (holding (m ++ more) r) l x.0 x.1
          (ap (λ (b : List ℕ). holds_row r (assessment sha256 reading (m ++ more) b)) body ∙ holds)
      by_case (inr (q, at, held)) =
          let x = one_of (holding m r) l (held r (sym (holds_still sha256 reading m more q r c at) ∙ holds)) in
          let lists = row_found m r (row_with_digest m (sha256 x.0.body)) (reading x.0.body) x.2 in
          any_of (holding (m ++ more) r) l x.0 x.1 (holds_still sha256 reading m more r r x.0 lists ∙ x.2)

  -- what it could be parked as came earlier
  parked_before : (d : List ℕ)
      → row_with_digest (m ++ more) d ≡ None → under d c ≡ true → list_any (under d) l ≡ true
  parked_before d none is = by_case there
    where
      same : sha256 c.body ≡ d
      same = (bytes_decides (sha256 c.body) d).0 is

      by_case : IsThere m l c → list_any (under d) l ≡ true
      by_case (inl any) = subst (λ (x : List ℕ). list_any (under x) l ≡ true) same any
      by_case (inr (q, at, held)) = absurd (none-some _ (sym none
          ∙ ap (row_with_digest (m ++ more)) (sym same) ∙ listed_still m more (sha256 c.body) q at))

  found_as : (p : Coming → Bool) → (p c ≡ true → list_any p l ≡ true)
      → find p (kept_arrivals sha256 reading f) ≡ find p (kept_arrivals sha256 reading e)
  found_as p before =
      ap (find p) one.counted_with
      ∙ find-append p (l ++ c ∷ []) tail
      ∙ ap (λ (o : Option Coming). option_or o (find p tail)) (find-push-old p l c before)
      ∙ sym (find-append p l tail)
      ∙ ap (find p) (sym one.counted_without)

  held_as : IsApart sha256 reading f → (r : ℕ) → held_body sha256 reading f r ≡ held_body sha256 reading e r
  held_as apart r =
      ap (λ (n : List MRow). arrived_body (find (holding n r) (kept_arrivals sha256 reading f)))
      (one.rows ∙ one.listed_are)
      ∙ ap arrived_body (found_as (holding (m ++ more) r) (held_before apart r))
      ∙ ap (λ (n : List MRow). arrived_body (find (holding n r) (kept_arrivals sha256 reading e)))
      (sym one.listed_are)

  parked_as : (d : List ℕ) → parked_body sha256 reading f d ≡ parked_body sha256 reading e d
  parked_as d =
      ap (λ (n : List MRow). cond (is_some (row_with_digest n d)) None
      (arrived_body (find (under d) (kept_arrivals sha256 reading f)))) (one.rows ∙ one.listed_are)
      ∙ by_row (row_with_digest (m ++ more) d) refl
      ∙ ap (λ (n : List MRow). cond (is_some (row_with_digest n d))
      None (arrived_body (find (under d) (kept_arrivals sha256 reading e)))) (sym one.listed_are)
    where
      by_row : (o : Option ℕ) → row_with_digest (m ++ more) d ≡ o
          → cond (is_some o) None (arrived_body (find (under d) (kept_arrivals sha256 reading f)))
          ≡ cond (is_some o) None (arrived_body (find (under d) (kept_arrivals sha256 reading e)))
      by_row None none = ap arrived_body (found_as (under d) (parked_before d none))
      by_row (Some q) at = refl

  books_as : (k : StoreState) → AreBooks sha256 reading e k → AreBooks sha256 reading f k
  books_as k books = record {
    listed = books.listed ∙ sym one.rows;
    receipts = books.receipts ∙ ap (receipts_after sha256 reading []) (sym one.firsts);
    bodies = λ apart r. books.bodies (apart_without apart) r ∙ sym (held_as apart r);
    parked = λ apart d. books.parked (apart_without apart) d ∙ sym (parked_as d);
    moment = books.moment ∙ sym one.moment;
    came = λ r body is. came_by sha256 reading e f one.rows stays r body (books.came r body is);
    waits = λ d body is. with_by sha256 reading e f one.rows stays d body (books.waits d body is);
    told = books.told;
    held_told = λ r some. subst (λ (n : List MRow). Any (TellsOf n r) k.receipts)
        (sym one.rows) (books.held_told r some);
    parked_told = books.parked_told;
  }

  stands_as : (k : StoreState) → IsStateAfter sha256 reading e k → IsStateAfter sha256 reading f k
  stands_as k stood = stands_still e f k k stood (books_as k stood.books) refl refl refl refl refl

-- an arrival with a reply is like an earlier one
pub seen : (e : List EventValue) (a : ArrivalValue) (r : ReplyValue) → reply_to sha256 reading e a ≡ Some r
    → list_any (like (coming (union e) a)) (comings e) ≡ true
seen e a r told =
    any_kept sha256 reading (comings e) (coming (union e) a)
    ∙ some_alike (union e) a.number (sha256 a.body) 1 (receipts_of sha256 reading e) r told

module _ (e : List EventValue) (a : ArrivalValue) (k : StoreState) (none : AddsNothing e a) where
  abbrev came : Coming
  came = coming (union e) a

  abbrev then : List EventValue
  then = e ++ arrived a ∷ []

  abbrev before : List Coming
  before = kept_arrivals sha256 reading e

  seen_before : first_ones ((comings e ++ came ∷ []) ++ []) ≡ first_ones (comings e ++ [])
  seen_before = ap first_ones (append-nil _)
      ∙ one_more_seen (comings e) came none.alike ∙ ap first_ones (sym (append-nil _))

  -- what stands for the events without it does so with it
  pub still_stands : IsStateAfter sha256 reading e k → IsStateAfter sha256 reading then k
  still_stands stood =
      let one : IsOneMore (union e) [] before [] came e then = record {
        counted_with = ap counting (comings-arrived e a)
            ∙ counting-append (comings e) (came ∷ []) ∙ sym (append-nil _);
        counted_without = sym (append-nil _);
        listed_are = sym (append-nil _);
        rows = union-arrived e a;
        moment = moment-arrived e a;
        firsts = ap first_ones (comings-arrived e a) ∙ one_more_seen (comings e) came none.alike;
      } in
      stands_as none.there one k stood

  -- also where another event comes after it, which lists these rows more, or brings an arrival
  stands_with : (x : EventValue) (more : List MRow) → union_after (union e) (x ∷ []) ≡ union e ++ more
      → first_ones ((comings e ++ came ∷ []) ++ comings_after (union e) (x ∷ []))
      ≡ first_ones (comings e ++ comings_after (union e) (x ∷ []))
      → IsStateAfter sha256 reading (e ++ x ∷ []) k → IsStateAfter sha256 reading (then ++ x ∷ []) k
  stands_with x more lists firsts stood =
      let tail = comings_after (union e) (x ∷ []) in
      let without = comings_on [] e (x ∷ []) in
      let with : comings (then ++ x ∷ []) ≡ (comings e ++ came ∷ []) ++ tail =
      comings_on [] then (x ∷ []) ∙ ap₂ (λ (l : List Coming) (m : List MRow). l
      ++ comings_after m (x ∷ [])) (comings-arrived e a) (union-arrived e a) in
      let one : IsOneMore (union e) more before (counting tail) came (e ++ x ∷ []) (then ++ x ∷ []) = record {
        counted_with = ap counting with ∙ counting-append (comings e ++ came ∷ []) tail
            ∙ ap (λ (l : List Coming). l ++ counting tail) (counting-append (comings e) (came ∷ []));
        counted_without = ap counting without ∙ counting-append (comings e) tail;
        listed_are = union_on [] e (x ∷ []) ∙ lists;
        rows = union_on [] then (x ∷ []) ∙ ap (λ (m : List MRow). union_after m (x ∷ []))
            (union-arrived e a) ∙ sym (union_on [] e (x ∷ []));
        moment = moment_on None then (x ∷ []) ∙ ap (λ (t : Option ℤ). moment_after t (x ∷ []))
            (moment-arrived e a) ∙ sym (moment_on None e (x ∷ []));
        firsts = ap first_ones with ∙ firsts ∙ ap first_ones (sym without);
      } in
      stands_as none.there one k stood

  pub still_stands_with : (x : EventValue)
      → IsStateAfter sha256 reading (e ++ x ∷ []) k → IsStateAfter sha256 reading (then ++ x ∷ []) k
  still_stands_with (listed more) stood = stands_with (listed more) (new_rows (union e) more) refl seen_before stood
  still_stands_with (arrived b) stood = stands_with (arrived b) [] (sym (append-nil _))
      (two_more_seen (comings e) came none.alike (coming (union e) b)) stood
  still_stands_with (moved t) stood = stands_with (moved t) [] (sym (append-nil _)) seen_before stood
  still_stands_with (arrived_early b) stood = stands_with (arrived_early b) [] (sym (append-nil _))
      (two_more_seen (comings e) came none.alike (early_coming (union e) b)) stood
