-- What a store keeps after parked bodies became those of their rows or were let go.
use Rattle.std.proofs.Common.{◌≡◌, ◌⊎◌, inl, inr, ℕ, ◌+◌, ◌-◌, ◌<◌, ◌≤◌, Bool, true}
use Rattle.std.proofs.Common.{false, cond, ◌==◌, ◌&&◌, not, nat_lt}
use Rattle.std.proofs.Common.{List, [], ◌∷◌, length, filter, Option, Some, None, is_some, refl, sym, ap}
use Rattle.std.proofs.Common.{ap₂, subst, ◌∙◌, arith, true≢false}
use Rattle.std.specs.List.{Contains}
use Rattle.std.specs.Str.{bytes_eq}
use Rattle.std.specs.Cmp.Lexicographic.{bytes_decides}
use Rattle.std.proofs.lemmas.Bool.Decides.{nat_tests}
use Rattle.std.proofs.lemmas.List.Elements.{All-contains, All-filter, filter_passes}
use Rattle.std.proofs.lemmas.Option.{none-some}
use Rattle.std.proofs.lemmas.Bool.{eqb-true, false_from_ne_true}
use Rattle.esc_manifest.specs.declared.row.MRow.{MRow}
use Rattle.esc_manifest.specs.ManifestRows.{row_at}
use Rattle.esc_manifest.specs.Accepted.{IsAccepted}
use Rattle.esc_store.specs.StoreState.{IsRising, StoreState, parked_put, with_adopted, with_listed, with_parked}
use Rattle.esc_store.specs.ListLaws.{first_or_later, later}
use Rattle.esc_events.specs.Assessment.{row_with_digest}
use Rattle.esc_events.specs.StateAfter.{Among}
use Rattle.esc_events.specs.Amended.{judged, numbers_from, is_adopted, is_dropped, adopted_rows, dropped_rows}
use Rattle.esc_events.specs.Amended.{amended_bodies, still_parked, with_all_adopted, with_all_dropped}
use Rattle.esc_desk.proofs.AmendedRows.{IsWithin, numbers_within, numbers_rise, in_numbers, filter_rises, in_filter}
use Rattle.esc_desk.proofs.AmendingLemmas.{row_is, row_has, judged_some}

none_both : (t : Bool) (o : Option (List ℕ)) → o ≡ None → cond t None o ≡ None
none_both true o none = refl
none_both false o none = none

-- ---- numbers that pass a test

among_of : (rows : List ℕ) (q : ℕ) → Contains rows q → Among rows q
among_of [] q there = absurd (omega (arith, there.1))
among_of (r ∷ rows) q there = by_place (first_or_later r q rows there) (among_of rows q)
  where
    by_place : (r ≡ q) ⊎ Contains rows q → (Contains rows q → Among rows q) → Among (r ∷ rows) q
    by_place (inl same) rest = inl (sym same)
    by_place (inr behind) rest = inr (rest behind)

contains_of : (rows : List ℕ) (q : ℕ) → Among rows q → Contains rows q
contains_of [] q there = absurd there
contains_of (r ∷ rows) q (inl is) = (0, omega arith, sym is)
contains_of (r ∷ rows) q (inr there) = later r q rows (contains_of rows q there)

-- a number that passes is among those that do, and each of those passes
module _ (p : ℕ → Bool) (first count q : ℕ) where
  in_passing : first ≤ q → q < first + count → p q ≡ true → Among (filter p (numbers_from first count)) q
  in_passing le lt is = among_of (filter p (numbers_from first count))
      q (in_filter p (numbers_from first count) q (in_numbers first count q le lt) is)

  of_passing : Among (filter p (numbers_from first count)) q → (first ≤ q) × (q < first + count) × (p q ≡ true)
  of_passing among =
      let numbers = numbers_from first count in
      let there = contains_of (filter p numbers) q among in
      let at = All-contains (IsWithin first count) (filter p numbers)
      q (All-filter p (IsWithin first count) numbers (numbers_within first count)) there in
      (at.0, at.1, All-contains (λ r. p r ≡ true) (filter p numbers) q (filter_passes p numbers) there)

-- ---- what stays

-- the rows, the receipts, the moment, the chain and its tables stay
abbrev pub StayBesides : StoreState → StoreState → Type 0
StayBesides k l = (l.listed ≡ k.listed) × (l.receipts ≡ k.receipts)
    × (l.moment ≡ k.moment) × (l.steps ≡ k.steps) × (l.registry ≡ k.registry)

stay_then : (a b c : StoreState) → StayBesides a b → StayBesides b c → StayBesides a c
stay_then a b c p q = (q.0 ∙ p.0, q.1 ∙ p.1, q.2 ∙ p.2, q.3 ∙ p.3, q.4 ∙ p.4)

module _ (n : List MRow) where
  abbrev digest_at : ℕ → List ℕ
  digest_at r = (row_at n r).digest

  -- what is kept, with the parked body of a row held for it
  abbrev adopt : StoreState → ℕ → StoreState
  adopt k r = with_adopted k r (digest_at r) (k.parked (digest_at r))

  one_stays : (k : StoreState) (r : ℕ) (d : List ℕ) (o : Option (List ℕ)) → StayBesides k (with_adopted k r d o)
  one_stays k r d None = (refl, refl, refl, refl, refl)
  one_stays k r d (Some body) = (refl, refl, refl, refl, refl)

  pub adopted_stay : (k : StoreState) (rows : List ℕ) → StayBesides k (with_all_adopted n k rows)
  adopted_stay k [] = (refl, refl, refl, refl, refl)
  adopted_stay k (r ∷ rows) = stay_then k (adopt k r) (with_all_adopted n (adopt k r) rows)
      (one_stays k r (digest_at r) (k.parked (digest_at r))) (adopted_stay (adopt k r) rows)

  pub dropped_stay : (k : StoreState) (rows : List ℕ) → StayBesides k (with_all_dropped n k rows)
  dropped_stay k [] = (refl, refl, refl, refl, refl)
  dropped_stay k (r ∷ rows) = dropped_stay (with_parked k (digest_at r) None) rows

  dropped_bodies : (k : StoreState) (rows : List ℕ) (q : ℕ) → (with_all_dropped n k rows).bodies q ≡ k.bodies q
  dropped_bodies k [] q = refl
  dropped_bodies k (r ∷ rows) q = dropped_bodies (with_parked k (digest_at r) None) rows q

  -- ---- what is parked

  -- what is parked when none is under the digests of these rows
  abbrev gone : (List ℕ → Option (List ℕ)) → List ℕ → List ℕ → Option (List ℕ)
  gone parked [] d = parked d
  gone parked (r ∷ rows) d = gone (parked_put parked (digest_at r) None) rows d

  dropped_gone : (k : StoreState) (rows : List ℕ) (d : List ℕ)
      → (with_all_dropped n k rows).parked d ≡ gone k.parked rows d
  dropped_gone k [] d = refl
  dropped_gone k (r ∷ rows) d = dropped_gone (with_parked k (digest_at r) None) rows d

  one_gone : (k : StoreState) (r : ℕ) (d : List ℕ) (o : Option (List ℕ))
      → k.parked d ≡ o → (x : List ℕ) → (with_adopted k r d o).parked x ≡ parked_put k.parked d None x
  one_gone k r d (Some body) is x = refl
  one_gone k r d None is x = by_test (bytes_eq d x) refl
    where
      by_test : (t : Bool) → bytes_eq d x ≡ t → k.parked x ≡ cond t None (k.parked x)
      by_test true same = ap k.parked (sym ((bytes_decides d x).0 same)) ∙ is
      by_test false other = refl

  adopted_gone : (k : StoreState) (rows : List ℕ) (d : List ℕ)
      → (with_all_adopted n k rows).parked d ≡ gone k.parked rows d
  adopted_gone k [] d = refl
  adopted_gone k (r ∷ rows) d =
      let one : (adopt k r).parked ≡ parked_put k.parked (digest_at r) None =
      λ i x. one_gone k r (digest_at r) (k.parked (digest_at r)) refl x i in
      adopted_gone (adopt k r) rows d ∙ ap (λ (g : List ℕ → Option (List ℕ)). gone g rows d) one

  -- under a digest that none of the rows has, it stays
  gone_others : (parked : List ℕ → Option (List ℕ)) (rows : List ℕ) (d : List ℕ)
      → ((r : ℕ) → Among rows r → bytes_eq (digest_at r) d ≡ false) → gone parked rows d ≡ parked d
  gone_others parked [] d others = refl
  gone_others parked (r ∷ rows) d others =
      gone_others (parked_put parked (digest_at r) None) rows d (λ s there. others s (inr there))
      ∙ ap (λ (t : Bool). cond t None (parked d)) (others r (inl refl))

  gone_none : (parked : List ℕ → Option (List ℕ)) (rows : List ℕ) (d : List ℕ)
      → parked d ≡ None → gone parked rows d ≡ None
  gone_none parked [] d none = none
  gone_none parked (r ∷ rows) d none = gone_none (parked_put parked (digest_at r) None)
      rows d (none_both (bytes_eq (digest_at r) d) (parked d) none)

  gone_here : (parked : List ℕ → Option (List ℕ)) (rows : List ℕ) (q : ℕ)
      → Among rows q → gone parked rows (digest_at q) ≡ None
  gone_here parked [] q there = absurd there
  gone_here parked (r ∷ rows) q (inl is) =
      let same : bytes_eq (digest_at r) (digest_at q) ≡ true =
      (bytes_decides (digest_at r) (digest_at q)).1 (ap digest_at (sym is)) in
      gone_none (parked_put parked (digest_at r) None) rows (digest_at q)
      (ap (λ (t : Bool). cond t None (parked (digest_at q))) same)
  gone_here parked (r ∷ rows) q (inr there) = gone_here (parked_put parked (digest_at r) None) rows q there

  gone_some : (parked : List ℕ → Option (List ℕ)) (rows : List ℕ) (d body : List ℕ)
      → gone parked rows d ≡ Some body → parked d ≡ Some body
  gone_some parked [] d body is = is
  gone_some parked (r ∷ rows) d body is = by_test (bytes_eq (digest_at r) d)
      (gone_some (parked_put parked (digest_at r) None) rows d body is)
    where
      by_test : (t : Bool) → cond t None (parked d) ≡ Some body → parked d ≡ Some body
      by_test true e = absurd (none-some _ e)
      by_test false e = e

  -- ---- bodies

  one_body : (k : StoreState) (r : ℕ) (d : List ℕ) (o : Option (List ℕ)) (q : ℕ)
      → (q == r) ≡ false → (with_adopted k r d o).bodies q ≡ k.bodies q
  one_body k r d None q other = refl
  one_body k r d (Some body) q other = ap (λ (t : Bool). cond t (Some body) (k.bodies q)) other

  adopted_others : (k : StoreState) (rows : List ℕ) (q : ℕ)
      → ((r : ℕ) → Among rows r → (q == r) ≡ false) → (with_all_adopted n k rows).bodies q ≡ k.bodies q
  adopted_others k [] q others = refl
  adopted_others k (r ∷ rows) q others =
      adopted_others (adopt k r) rows q (λ s there. others s (inr there))
      ∙ one_body k r (digest_at r) (k.parked (digest_at r)) q (others r (inl refl))

  adopted_here : (okn : IsAccepted n) (k : StoreState) (rows : List ℕ)
      → IsRising rows → ((r : ℕ) → Among rows r → r < length n)
      → (q : ℕ) (body : List ℕ) → Among rows q
      → k.parked (digest_at q) ≡ Some body → (with_all_adopted n k rows).bodies q ≡ Some body
  adopted_here okn k [] rises few q body there parked = absurd there
  adopted_here okn k (r ∷ rows) rises few q body (inl is) parked =
      adopted_others (adopt k r) rows q later
      ∙ ap (λ (o : Option (List ℕ)). (with_adopted k r (digest_at r) o).bodies q)
      (ap (λ (s : ℕ). k.parked (digest_at s)) (sym is) ∙ parked)
      ∙ ap (λ (t : Bool). cond t (Some body) (k.bodies q)) same
    where
      same : (q == r) ≡ true
      same = grind (arith, nat_tests, is)

      later : (s : ℕ) → Among rows s → (q == s) ≡ false
      later s there = let at : r < s = All-contains (λ m. r < m)
          rows s rises.0 (contains_of rows s there) in grind (arith, nat_tests, is, at)
  adopted_here okn k (r ∷ rows) rises few q body (inr there) parked =
      adopted_here okn (adopt k r) rows rises.1 (λ s t. few s (inr t)) q body there
      (one_gone k r (digest_at r) (k.parked (digest_at r)) refl (digest_at q)
      ∙ ap (λ (t : Bool). cond t None (k.parked (digest_at q)))
      (false_from_ne_true (bytes_eq (digest_at r) (digest_at q)) other) ∙ parked)
    where
      other : bytes_eq (digest_at r) (digest_at q) ≡ true → ⊥
      other same =
          let one : r ≡ q = okn.one_digest r q (few r (inl refl))
          (few q (inr there)) ((bytes_decides (digest_at r) (digest_at q)).0 same) in
          let at : r < q = All-contains (λ m. r < m) rows q rises.0 (contains_of rows q there) in
          omega (arith, one, at)

-- ---- rows are listed; the parked bodies of those from this one on are held or dropped

module _ (n : List MRow) (okn : IsAccepted n) (k : StoreState) (from : ℕ) (le : from ≤ length n) where
  abbrev pub adopted : List ℕ
  adopted = adopted_rows n k.parked from

  abbrev pub dropped : List ℕ
  dropped = dropped_rows n k.parked from

  -- what is kept with the rows, then with the bodies, and then without the dropped ones
  abbrev rows_listed : StoreState
  rows_listed = with_listed k n

  abbrev bodies_held : StoreState
  bodies_held = with_all_adopted n rows_listed adopted

  abbrev pub last : StoreState
  last = with_all_dropped n (with_all_adopted n (with_listed k n) adopted) dropped

  pub rest_stays : StayBesides (with_listed k n) last
  rest_stays = stay_then rows_listed bodies_held last (adopted_stay n rows_listed adopted)
      (dropped_stay n bodies_held dropped)

  of_rows : (p : ℕ → Bool) (q : ℕ) → Among (filter p (numbers_from from (length n - from))) q
      → (from ≤ q) × (q < length n) × (p q ≡ true)
  of_rows p q there = let x = of_passing p from (length n - from) q there in (x.0, omega (arith, x.1, le), x.2)

  in_rows : (p : ℕ → Bool) (q : ℕ)
      → from ≤ q → q < length n → p q ≡ true → Among (filter p (numbers_from from (length n - from))) q
  in_rows p q new lt is = in_passing p from (length n - from) q new (omega (arith, lt, new, le)) is

  -- ---- parked

  parked_of : (d : List ℕ) → last.parked d ≡ gone n (gone n k.parked adopted) dropped d
  parked_of d =
      let one : bodies_held.parked ≡ gone n k.parked adopted = λ i x. adopted_gone n rows_listed adopted x i in
      dropped_gone n bodies_held dropped d ∙ ap (λ (g : List ℕ → Option (List ℕ)). gone n g dropped d) one

  pub parked_was : (d body : List ℕ) → last.parked d ≡ Some body → k.parked d ≡ Some body
  parked_was d body is = gone_some n k.parked
      adopted d body (gone_some n (gone n k.parked adopted) dropped d body (sym (parked_of d) ∙ is))

  pub parked_are : (d : List ℕ) → ((q : ℕ) → row_with_digest n d ≡ Some q
      → q < from → k.parked d ≡ None) → last.parked d ≡ still_parked n k.parked d
  parked_are d old = parked_of d ∙ by_row (row_with_digest n d) refl
    where
      none : k.parked d ≡ None → gone n (gone n k.parked adopted) dropped d ≡ None
      none is = gone_none n (gone n k.parked adopted) dropped d (gone_none n k.parked adopted d is)

      other : row_with_digest n d ≡ None → (s : ℕ) → s < length n → bytes_eq (digest_at n s) d ≡ false
      other unlisted s lt = false_from_ne_true (bytes_eq (digest_at n s) d) (λ same. none-some
          _ (sym unlisted ∙ row_is okn lt ((bytes_decides (digest_at n s) d).0 same)))

      new : (q : ℕ) → row_with_digest n d ≡ Some q → from ≤ q
          → (o : Option (List ℕ)) → k.parked d ≡ o → gone n (gone n k.parked adopted) dropped d ≡ None
      new q row far None is = none is
      new q row far (Some body) is = by_test (is_adopted n k.parked q) refl
        where
          at : (q < length n) × (digest_at n q ≡ d)
          at = row_has n d row

          there : is_some (k.parked (digest_at n q)) ≡ true
          there = ap (λ (x : List ℕ). is_some (k.parked x)) at.1 ∙ ap (λ (o : Option (List ℕ)). is_some o) is

          by_test : (t : Bool) → is_adopted n k.parked q ≡ t → gone n (gone n k.parked adopted) dropped d ≡ None
          by_test true passes =
              gone_none n (gone n k.parked adopted) dropped d
              (subst (λ (x : List ℕ). gone n k.parked adopted x ≡ None) at.1
              (gone_here n k.parked adopted q (in_rows (is_adopted n k.parked) q far at.0 passes)))
          by_test false fails =
              subst (λ (x : List ℕ). gone n (gone n k.parked adopted) dropped x ≡ None) at.1
              (gone_here n (gone n k.parked adopted) dropped q (in_rows (is_dropped n k.parked)
              q far at.0 (ap₂ (λ (a b : Bool). a && not b) there fails)))

      by_row : (o : Option ℕ) → row_with_digest n d ≡ o → gone n (gone n k.parked adopted) dropped d
          ≡ cond (is_some (row_with_digest n d)) None (k.parked d)
      by_row None unlisted =
          gone_others n (gone n k.parked adopted)
          dropped d (λ s there. other unlisted s (of_rows (is_dropped n k.parked) s there).1)
          ∙ gone_others n k.parked
          adopted d (λ s there. other unlisted s (of_rows (is_adopted n k.parked) s there).1)
          ∙ sym (ap (λ (o : Option ℕ). cond (is_some o) None (k.parked d)) unlisted)
      by_row (Some q) row = by_old (nat_lt q from) refl
          ∙ sym (ap (λ (o : Option ℕ). cond (is_some o) None (k.parked d)) row)
        where
          by_old : (t : Bool) → nat_lt q from ≡ t → gone n (gone n k.parked adopted) dropped d ≡ None
          by_old true is = none (old q row (grind (arith, nat_tests, is)))
          by_old false is = new q row (grind (arith, nat_tests, is)) (k.parked d) refl

  -- ---- bodies

  pub bodies_are : ((r : ℕ) (body : List ℕ) → k.bodies r ≡ Some body → r < from)
      → (r : ℕ) → last.bodies r ≡ amended_bodies n k.parked from k.bodies r
  bodies_are few r = dropped_bodies n bodies_held dropped r ∙ by_tests (nat_lt r from) refl (nat_lt r (length n)) refl
    where
      stays : ((s : ℕ) → Among adopted s → r ≡ s → ⊥) → bodies_held.bodies r ≡ k.bodies r
      stays never = adopted_others n rows_listed
          adopted r (λ s there. false_from_ne_true (r == s) (λ same. never s there (eqb-true r s same)))

      none : from ≤ r → (o : Option (List ℕ)) → k.bodies r ≡ o → o ≡ None
      none far None is = refl
      none far (Some body) is = absurd (let at = few r body is in omega (arith, at, far))

      new : from ≤ r → r < length n
          → (o : Option (List ℕ)) → judged n r (k.parked (digest_at n r)) ≡ o → bodies_held.bodies r ≡ o
      new far lt None miss = stays never ∙ none far (k.bodies r) refl
        where
          never : (s : ℕ) → Among adopted s → r ≡ s → ⊥
          never s there same = true≢false (sym (of_rows (is_adopted n k.parked) s there).2
              ∙ ap (is_adopted n k.parked) (sym same) ∙ ap (λ (o : Option (List ℕ)). is_some o) miss)
      new far lt (Some body) is =
          adopted_here n okn rows_listed adopted (filter_rises (is_adopted n k.parked)
          (numbers_from from (length n - from)) (numbers_rise from (length n - from)))
          (λ s there. (of_rows (is_adopted n k.parked) s there).1) r body
          (in_rows (is_adopted n k.parked) r far lt (ap (λ (o : Option (List ℕ)). is_some o) is))
          (judged_some n r (k.parked (digest_at n r)) body is).0

      by_tests : (s : Bool) → nat_lt r from ≡ s → (t : Bool) → nat_lt r (length n) ≡ t
          → bodies_held.bodies r ≡ cond s (k.bodies r) (cond t (judged n r (k.parked (digest_at n r))) None)
      by_tests true is t lt =
          let old : r < from = grind (arith, nat_tests, is) in
          stays (λ s there same. let x = (of_rows (is_adopted n k.parked) s there).0 in omega (arith, x, old, same))
      by_tests false is true lt = new (grind (arith, nat_tests, is))
          (grind (arith, nat_tests, lt)) (judged n r (k.parked (digest_at n r))) refl
      by_tests false is false lt =
          let far : length n ≤ r = grind (arith, nat_tests, lt) in
          stays (λ s there same. let x = (of_rows (is_adopted n k.parked) s there).1 in
          omega (arith, x, far, same)) ∙ none (omega (arith, far, le)) (k.bodies r) refl
