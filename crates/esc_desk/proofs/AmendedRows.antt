-- New rows whose parked bodies are adopted: no body was held of them, each is there once, and after the
-- rows that had a body they are those that have one then.
use Rattle.std.proofs.Common.{◌≡◌, ◌⊎◌, inl, inr, ℕ, zero, suc, ◌+◌, ◌-◌, ◌<◌, ◌≤◌}
use Rattle.std.proofs.Common.{Bool, true, false, cond, filter, List, [], ◌∷◌, ◌++◌, length, nat_lt}
use Rattle.std.proofs.Common.{Option, Some, None, is_some, IsSome, refl, sym, ap, ap₂, ◌∙◌, arith, true≢false}
use Rattle.std.specs.List.{All, Contains}
use Rattle.std.proofs.lemmas.Bool.Decides.{nat_tests}
use Rattle.std.proofs.lemmas.List.Elements.{All-nil, All-cons, All-head, All-tail, All-append}
use Rattle.std.proofs.lemmas.List.Elements.{All-weaker, All-filter, All-contains, All-contains_itself}
use Rattle.std.proofs.lemmas.List.Elements.{filter_passes, Contains-append_left, Contains-append_right}
use Rattle.std.proofs.lemmas.List.Elements.{Contains-append_cases}
use Rattle.esc_manifest.specs.declared.row.MRow.{MRow}
use Rattle.esc_manifest.specs.ManifestRows.{row_at}
use Rattle.esc_store.specs.StoreState.{StoreState, IsRising, AreHeld}
use Rattle.esc_store.specs.ListLaws.{first_or_later, later}
use Rattle.esc_events.specs.Amended.{judged, numbers_from, is_adopted, adopted_rows, amended_bodies}

-- ---- numbers that rise by one

-- a number is one of those that begin at another
abbrev pub IsWithin : ℕ → ℕ → ℕ → Type 0
IsWithin first count q = (first ≤ q) × (q < first + count)

-- consecutive numbers are within their range
pub numbers_within : (first count : ℕ) → All (IsWithin first count) (numbers_from first count)
numbers_within first zero = All-nil (IsWithin first zero)
numbers_within first (suc count) =
    All-cons (IsWithin first (suc count)) first (numbers_from (suc first) count) (omega arith, omega arith)
    (All-weaker (IsWithin (suc first) count) (IsWithin first (suc count)) (λ q at. (
      omega (arith, at.0),
      omega (arith, at.1),
    )) (numbers_from (suc first) count) (numbers_within (suc first) count))

-- consecutive numbers rise
pub numbers_rise : (first count : ℕ) → IsRising (numbers_from first count)
numbers_rise first zero = tt
numbers_rise first (suc count) = (
  All-weaker (IsWithin (suc first) count) (λ q. first < q)
      (λ q at. omega (arith, at.0)) (numbers_from (suc first) count) (numbers_within (suc first) count),
  numbers_rise (suc first) count,
)

-- a number within the range is one of them
pub in_numbers : (first count q : ℕ) → first ≤ q → q < first + count → Contains (numbers_from first count) q
in_numbers first zero q le lt = absurd (omega (arith, le, lt))
in_numbers first (suc count) q le lt =
    by_test (nat_lt first q) refl (λ gap. in_numbers (suc first) count q gap (omega (arith, lt)))
  where
    by_test : (t : Bool) → nat_lt first q ≡ t
        → (suc first ≤ q → Contains (numbers_from (suc first) count) q)
        → Contains (first ∷ numbers_from (suc first) count) q
    by_test true is rest = later first q (numbers_from (suc first) count) (rest (grind (arith, nat_tests, is)))
    by_test false is rest = let same : first ≡ q = grind (arith, nat_tests, is, le) in (0, omega arith, same)

-- ---- those that pass a test

module _ (p : ℕ → Bool) where
  pub filter_rises : (xs : List ℕ) → IsRising xs → IsRising (filter p xs)
  filter_rises [] up = tt
  filter_rises (x ∷ xs) up = by_test (p x) (filter_rises xs up.1)
    where
      by_test : (t : Bool) → IsRising (filter p xs) → IsRising (cond t (x ∷ filter p xs) (filter p xs))
      by_test true rest = (All-filter p (λ y. x < y) xs up.0, rest)
      by_test false rest = rest

  pub in_filter : (xs : List ℕ) (q : ℕ) → Contains xs q → p q ≡ true → Contains (filter p xs) q
  in_filter [] q there passes = absurd (omega (arith, there.1))
  in_filter (x ∷ xs) q there passes =
      by_test (p x) refl (first_or_later x q xs there) (λ rest. in_filter xs q rest passes)
    where
      by_test : (t : Bool) → p x ≡ t → (x ≡ q) ⊎ Contains xs q → (Contains xs q
          → Contains (filter p xs) q) → Contains (cond t (x ∷ filter p xs) (filter p xs)) q
      by_test true is (inl same) more = (0, omega arith, same)
      by_test true is (inr rest) more = later x q (filter p xs) (more rest)
      by_test false is (inl same) more = absurd (true≢false (sym passes ∙ ap p (sym same) ∙ is))
      by_test false is (inr rest) more = more rest

rises_on : (b : ℕ) (xs ys : List ℕ)
    → IsRising xs → IsRising ys → All (λ q. q < b) xs → All (λ q. b ≤ q) ys → IsRising (xs ++ ys)
rises_on b [] ys up more below above = more
rises_on b (x ∷ xs) ys up more below above =
    let under : x < b = All-head (λ q. q < b) x xs below in (
      All-append (λ q. x < q) xs
          ys up.0 (All-weaker (λ q. b ≤ q) (λ q. x < q) (λ q le. omega (arith, le, under)) ys above),
      rises_on b xs ys up.1 more (All-tail (λ q. q < b) x xs below) above,
    )

-- ---- n is listed where fewer rows were, and no body is held of a row that is new
module _ (n : List MRow) (k : StoreState)
    (few : (r : ℕ) (body : List ℕ) → k.bodies r ≡ Some body → r < length k.listed) where
  abbrev from : ℕ
  from = length k.listed

  abbrev pub adopted : List ℕ
  adopted = adopted_rows n k.parked from

  adopted_within : All (IsWithin from (length n - from)) adopted
  adopted_within = All-filter (is_adopted n k.parked) (IsWithin from (length n - from))
      (numbers_from from (length n - from)) (numbers_within from (length n - from))

  adopted_rise : IsRising adopted
  adopted_rise = filter_rises (is_adopted n k.parked)
      (numbers_from from (length n - from)) (numbers_rise from (length n - from))

  pub held_with_adopted : (held : List ℕ)
      → AreHeld k.bodies held → AreHeld (amended_bodies n k.parked from k.bodies) (held ++ adopted)
  held_with_adopted held are = record {
    rising = rises_on from held adopted are.rising adopted_rise
        (All-weaker (Contains held) (λ q. q < from) (λ q there. within
        q (k.bodies q) refl ((are.each q).0 there)) held (All-contains_itself held))
        (All-weaker (IsWithin from (length n - from)) (λ q. from ≤ q) (λ q at. at.0) adopted adopted_within);
    each = λ r. (there r, back r);
  }
    where
      within : (r : ℕ) (o : Option (List ℕ)) → k.bodies r ≡ o → IsSome o → r < from
      within r None is some = absurd (true≢false (sym some))
      within r (Some body) is some = few r body is

      there : (r : ℕ) → Contains (held ++ adopted) r → IsSome (amended_bodies n k.parked from k.bodies r)
      there r among = by_place (Contains-append_cases held adopted r among)
        where
          by_place : Contains held r ⊎ Contains adopted r → IsSome (amended_bodies n k.parked from k.bodies r)
          by_place (inl was) =
              let some = (are.each r).0 was in
              let lt = within r (k.bodies r) refl some in
              let old : nat_lt r from ≡ true = grind (arith, nat_tests, lt) in
              ap (λ (t : Bool). is_some (cond t (k.bodies r) (cond (nat_lt r (length n))
              (judged n r (k.parked (row_at n r).digest)) None))) old ∙ some
          by_place (inr new) =
              let at = All-contains (IsWithin from (length n - from)) adopted r adopted_within new in
              let all_pass = filter_passes (is_adopted n k.parked) (numbers_from from (length n - from)) in
              let passes : is_adopted n k.parked r ≡ true =
              All-contains (λ q. is_adopted n k.parked q ≡ true) adopted r all_pass new in
              let far : nat_lt r from ≡ false = grind (arith, nat_tests, at.0) in
              let inside : nat_lt r (length n) ≡ true =
              let lt : r < length n = omega (arith, at.0, at.1) in grind (arith, nat_tests, lt) in
              ap₂ (λ (s t : Bool). is_some (cond s (k.bodies r)
              (cond t (judged n r (k.parked (row_at n r).digest)) None))) far inside ∙ passes

      back : (r : ℕ) → IsSome (amended_bodies n k.parked from k.bodies r) → Contains (held ++ adopted) r
      back r some = by_tests (nat_lt r from) refl (nat_lt r (length n)) refl some
        where
          by_tests : (s : Bool) → nat_lt r from ≡ s → (t : Bool) → nat_lt r (length n) ≡ t
              → IsSome (cond s (k.bodies r) (cond t (judged n r (k.parked (row_at n r).digest)) None))
              → Contains (held ++ adopted) r
          by_tests true old t lt has = Contains-append_left held adopted r ((are.each r).1 has)
          by_tests false new true lt has =
              let far : from ≤ r = grind (arith, nat_tests, new) in
              let inside : r < length n = grind (arith, nat_tests, lt) in
              let among = in_numbers from (length n - from) r far (omega (arith, far, inside)) in
              Contains-append_right held adopted r
              (in_filter (is_adopted n k.parked) (numbers_from from (length n - from)) r among has)
          by_tests false new false lt has = absurd (true≢false (sym has))
